use Rattle.std.proofs.Common.{◌∙◌, sym, subst}
use Rattle.ialg.specs.Views.{control_of}
use Rattle.host_moves.specs.Refinement.{told}
use Rattle.host_moves.proofs.Places.{places_stay}
use Rattle.alg_host.specs.Hosts.{HostRefines}
use Rattle.alg_host.proofs.Served.{controls_stay, still_kept}
use Rattle.alg_host.proofs.host.Host.control.Goals as goal

pub invariant_of-self : goal.invariant_of-self
invariant_of-self g c = record {
  ok = c.give_control.ensures.stays.ok;
  standing = places_stay c.self.inside.tables c.give_control.new.tables c.self.inside.spaces c.give_control.ensures.stays.same c.self.invariant.standing;
  poisoned = c.give_control.ensures.stays.poisoned;
}

pub returns-clause-machine : goal.returns-clause-machine
returns-clause-machine g c = λ before keeps.
    let kept = subst (λ h. HostRefines g.M.Ialg.law h before) (sym c.self.view_is) keeps in
    let did = c.give_control.ensures.machine before kept.poison kept.kept.tables in
    let same = controls_stay g.M.Ialg.law.meaning before did.0 c.args.i (control_of c.args.c.now) (told c.give_control.result) did.1 in (
      did.0,
      did.1,
      record {
        kept = still_kept g.M.Ialg.law c.self.inside.tables c.give_control.new.tables c.self.inside.spaces before did.0 kept.kept same did.2;
        poison = same.poison ∙ kept.poison;
      },
    )
