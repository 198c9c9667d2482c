use Rattle.std.proofs.Common.{◌∙◌, sym, subst}
use Rattle.host_spec.specs.Steps.{step}
use Rattle.alg_host.specs.Hosts.{HostRefines}
use Rattle.alg_host.proofs.Served.{step_poison}
use Rattle.alg_host.proofs.host.Host.step.Goals as goal

pub invariant_of-self : goal.invariant_of-self
invariant_of-self g c = record {
  ok = c.step.ensures.ok;
  standing = c.step.ensures.standing;
  poisoned = c.step.ensures.poisoned c.self.inside.poison c.self.invariant.poisoned;
}

pub returns : goal.returns
returns g c = record {
  machine = λ before keeps.
      let kept = subst (λ h. HostRefines g.M.Ialg.law h before) (sym c.self.view_is) keeps in
      let did = c.step.ensures.stepped.machine before kept.kept in
      ((step before c.args.space).1, did.0, record { kept = did.1; poison = step_poison before c.args.space ∙ kept.poison });
}
