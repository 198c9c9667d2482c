-- The last one of them.
use Rattle.std.proofs.Common.{arith}
use Rattle.relocate.proofs.Fronts.{last_of_first}
use Rattle.relocate.proofs.packing.end_of_first.Goals as goal

pub overflow_add-result : goal.overflow_add-result
overflow_add-result g c =
    let last = last_of_first g.B.Standing.stands c.args.count c.args.blocks.now _ c.spot-last.result c.requires.spots c.requires.within c.if-count-eq0.false c.index-blocks-count.is c.spot-last.ensures in
    let small = last.inside in omega (arith, small)

pub returns : goal.returns
returns g c =
    let last = last_of_first g.B.Standing.stands c.args.count c.args.blocks.now _ c.spot-last.result c.requires.spots c.requires.within c.if-count-eq0.false c.index-blocks-count.is c.spot-last.ensures in
    last.end
