use Rattle.std.proofs.Common.{◌∙◌, sym, subst}
use Rattle.host_spec.specs.Steps.{processed}
use Rattle.host_moves.proofs.Places.{places_stay}
use Rattle.alg_host.specs.Hosts.{HostRefines}
use Rattle.alg_host.proofs.Served.{processed_stays, still_kept}
use Rattle.alg_host.proofs.host.Host.process.Goals as goal

pub invariant_of-self : goal.invariant_of-self
invariant_of-self g c = record {
  ok = c.give_block.ensures.stays.ok;
  standing = places_stay c.self.inside.tables c.give_block.new.tables c.self.inside.spaces c.give_block.ensures.stays.same c.self.invariant.standing;
  poisoned = c.give_block.ensures.stays.poisoned;
}

pub returns-clause-machine : goal.returns-clause-machine
returns-clause-machine g c = λ before keeps.
    let kept = subst (λ h. HostRefines g.M.Ialg.law h before) (sym c.self.view_is) keeps in
    let did = c.give_block.ensures.machine before kept.poison kept.kept.tables in
    let same = processed_stays before c.args.i c.args.input.now in (
      processed before c.args.i c.args.input.now,
      did.0,
      record {
        kept = still_kept g.M.Ialg.law c.self.inside.tables c.give_block.new.tables c.self.inside.spaces before (processed before c.args.i c.args.input.now) kept.kept same did.1;
        poison = same.poison ∙ kept.poison;
      },
    )
