use Rattle.std.proofs.Common.{◌∙◌, ap, sym, subst}
use Rattle.alg_host.specs.Hosts.{HostRefines}
use Rattle.alg_host.proofs.Served.{delete_poison, on_refusal}
use Rattle.alg_host.proofs.host.Host.delete.Goals as goal

pub returns-clause-refused : goal.returns-clause-refused
returns-clause-refused g c = on_refusal c.delete.result _ _ (λ e. rw (e.0, e.1) c.self.view_is) c.delete.ensures.refused

pub returns-clause-machine : goal.returns-clause-machine
returns-clause-machine g c = λ before keeps.
    let kept = subst (λ h. HostRefines g.M.Ialg.law h before) (sym c.self.view_is) keeps in
    let did = c.delete.ensures.machine before kept.poison kept.kept in
    (did.0, did.1, record { kept = did.2; poison = ap (λ o. o.1.poison) did.1 ∙ delete_poison g.M.Ialg.law.meaning before c.args.i ∙ kept.poison })
