use Rattle.std.proofs.Common.{rules, ◌∙◌, sym, ap, length}
use Rattle.port_files.proofs.PairLemmas.{next_pair, has_room, all_paired, twice_as_many}
use Rattle.port_files.proofs.pairing.paired.Goals as goal

pub loop-pair-init : goal.loop-pair-init
loop-pair-init c =
    rw (c.new-ports.ensures, c.into_iter-pair-iterator.ensures.into_iter_gives)
    (c.chunks_exact-pair-items.ensures.rest, c.chunks_exact-pair-items.ensures.size)

pub push-requires : goal.push-requires
push-requires c =
    let steps = c.in-Some.ensures.steps in (
      search rules,
      has_room _ c.loop-pair.ports.items c.in-Some.pair.now _ _ _ c.loop-pair.invariant.0 steps.1.0 (steps.1.1 ∙ c.loop-pair.invariant.1) c.requires.few,
    )

pub loop-pair-preserved : goal.loop-pair-preserved
loop-pair-preserved c =
    let steps = c.in-Some.ensures.steps in (
      next_pair _ c.loop-pair.ports.items _ c.in-Some.pair.now _ _ _ c.loop-pair.invariant.0 steps.1.0 (steps.1.1 ∙ c.loop-pair.invariant.1) c.push.ensures.items,
      steps.0 ∙ c.loop-pair.invariant.1,
    )

pub returns-clause-order : goal.returns-clause-order
returns-clause-order c =
    all_paired c.loop-pair.ports.items _ _ c.loop-pair.invariant.0 (rw c.loop-pair.invariant.1 at c.in-None.ensures.steps.1.0) c.requires.even

pub returns-clause-count : goal.returns-clause-count
returns-clause-count c =
    sym (twice_as_many c.loop-pair.ports.items) ∙ ap length (returns-clause-order c)
