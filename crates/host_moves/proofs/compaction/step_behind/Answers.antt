use Rattle.std.proofs.Common.{ap, sym, ◌∙◌}
use Rattle.host_moves.proofs.MovesKept.{poison_stays, step_kept}
use Rattle.host_moves.proofs.Compactions.{moved_one}
use Rattle.host_moves.proofs.compaction.step_behind.Goals as goal

pub returns-clause-stepped : goal.returns-clause-stepped
returns-clause-stepped g c = record {
  fewer = λ moved. moved_one c.args.spaces.now c.make_next_move.new.spaces c.args.space (sym c.make_next_move.ensures.answer ∙ moved) (c.make_next_move.ensures.moved moved).map;
  machine = λ before kept.
      step_kept g.M.Ialg.law c.args.space before kept c.make_next_move.ensures.answer c.make_next_move.ensures.moved
      (λ packed. let still = c.make_next_move.ensures.packed packed in rw (still.0, still.1) kept);
}

pub returns-clause-poisoned : goal.returns-clause-poisoned
returns-clause-poisoned g c =
    poison_stays g.M.Ialg.law c.args.space c.make_next_move.ensures.moved
    (λ packed. ap (λ t. t.groups) (c.make_next_move.ensures.packed packed).0)
