use Rattle.std.proofs.Common.{sym, subst}
use Rattle.host_spec.specs.Steps.{compact}
use Rattle.alg_host.specs.Hosts.{HostRefines}
use Rattle.alg_host.proofs.host.Host.compact.Goals as goal

pub invariant_of-self : goal.invariant_of-self
invariant_of-self g c = record {
  ok = c.compact.ensures.ok;
  standing = c.compact.ensures.standing;
  poisoned = c.compact.ensures.poisoned c.self.inside.poison c.self.invariant.poisoned;
}

pub returns : goal.returns
returns g c = record {
  machine = λ before keeps.
      let kept = subst (λ h. HostRefines g.M.Ialg.law h before) (sym c.self.view_is) keeps in
      let did = c.compact.ensures.machine before kept.kept in
      ((compact before c.args.space).1, did.0, record { kept = did.1; poison = kept.poison });
}
