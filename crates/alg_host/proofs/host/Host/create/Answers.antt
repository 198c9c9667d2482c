use Rattle.std.proofs.Common.{◌∙◌, sym, subst}
use Rattle.alg_host.specs.Hosts.{HostRefines}
use Rattle.alg_host.proofs.Served.{creates_poison, on_refusal}
use Rattle.alg_host.proofs.host.Host.create.Goals as goal

pub returns-clause-refused : goal.returns-clause-refused
returns-clause-refused g c = on_refusal c.create.result _ _ (λ e. rw (e.0, e.1) c.self.view_is) c.create.ensures.refused

pub returns-clause-machine : goal.returns-clause-machine
returns-clause-machine g c = λ before keeps.
    let kept = subst (λ h. HostRefines g.M.Ialg.law h before) (sym c.self.view_is) keeps in
    let did = c.create.ensures.machine before kept.poison kept.kept in (
      did.0,
      did.1,
      record {
        kept = did.2;
        poison = creates_poison g.M.Ialg.law.meaning before did.0 c.args.i c.args.kind c.args.group c.args.p.now.items c.create.result did.1 ∙ kept.poison;
      },
    )
