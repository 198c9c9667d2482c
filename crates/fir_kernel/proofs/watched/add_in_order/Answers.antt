use Rattle.std.proofs.Common.{◌≡◌, ◌+◌, arith}
use Rattle.fir_kernel.proofs.HalfLanes.{halved_kept}
use Rattle.fir_kernel.proofs.watched.add_in_order.Goals as goal

pub add_pair-a-requires-clause-before : goal.add_pair-a-requires-clause-before
add_pair-a-requires-clause-before c = halved_kept c.args.halves _ c.requires.before

pub add_pair-b-requires-clause-before : goal.add_pair-b-requires-clause-before
add_pair-b-requires-clause-before c = halved_kept c.add_pair-a.result _ c.add_pair-a.ensures

pub add_pair-c-requires-clause-before : goal.add_pair-c-requires-clause-before
add_pair-c-requires-clause-before c =
    let next : c.args.tap + 2 + 2 ≡ c.args.tap + 4 = omega arith in
    rw next at (halved_kept c.add_pair-b.result _ c.add_pair-b.ensures)

pub add_pair-requires-clause-before : goal.add_pair-requires-clause-before
add_pair-requires-clause-before c =
    let next : c.args.tap + 4 + 2 ≡ c.args.tap + 6 = omega arith in
    rw next at (halved_kept c.add_pair-c.result _ c.add_pair-c.ensures)

pub returns : goal.returns
returns c =
    let next : c.args.tap + 6 + 2 ≡ c.args.tap + 8 = omega arith in
    rw next at (halved_kept c.add_pair.result _ c.add_pair.ensures)
