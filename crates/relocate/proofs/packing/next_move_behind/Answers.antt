use Rattle.std.proofs.Common.{[], map, drop, arith}
use Rattle.std.proofs.lemmas.List.{drop-map}
use Rattle.relocate.proofs.Fronts.{are_left, goes, no_others, others_are, stands_behind, stays}
use Rattle.relocate.proofs.packing.next_move_behind.Goals as goal

pub loop-index-init : goal.loop-index-init
loop-index-init g c =
    let left = are_left c.args.packed (map g.B.Standing.stands c.args.blocks.now) c.end_of_first-end.result (map g.B.Standing.stands (drop c.args.packed c.args.blocks.now))
    c.requires.spots c.requires.packed c.end_of_first-end.ensures (drop-map g.B.Standing.stands c.args.packed c.args.blocks.now) in
    record { order = left.0; left = left.1 }

pub packed_place-to-requires : goal.packed_place-to-requires
packed_place-to-requires g c =
    let k = c.loop-index.index in
    let are = others_are g.B.Standing.stands c.args.blocks.now k c.index-blocks-index.result c.spot-spot.result c.loop-index-test.true c.index-blocks-index.is c.spot-spot.ensures in
    let its = stands_behind k c.loop-index.end c.spot-spot.result _ _ [] are c.loop-index.invariant.order in
    record { spot = its.0; behind = its.1 }

pub loop-index-preserved : goal.loop-index-preserved
loop-index-preserved g c =
    let k = c.loop-index.index in
    let i = c.loop-index.invariant in
    let are = others_are g.B.Standing.stands c.args.blocks.now k c.index-blocks-index.result c.spot-spot.result c.loop-index-test.true c.index-blocks-index.is c.spot-spot.ensures in
    let left = stays k c.loop-index.end c.spot-spot.result _ _ _ are c.packed_place-to.result i.order i.left c.packed_place-to.ensures c.if-spot-to.false in
    record { order = left.0; left = left.1 }

pub overflow_add-end : goal.overflow_add-end
overflow_add-end g c =
    let k = c.loop-index.index in
    let are = others_are g.B.Standing.stands c.args.blocks.now k c.index-blocks-index.result c.spot-spot.result c.loop-index-test.true c.index-blocks-index.is c.spot-spot.ensures in
    let inside = (stands_behind k c.loop-index.end c.spot-spot.result _ _ [] are c.loop-index.invariant.order).0.inside in
    let at = c.if-spot-to.false in
    omega (arith, inside, at)

pub returns-then-spot-to : goal.returns-then-spot-to
returns-then-spot-to g c =
    let k = c.loop-index.index in
    let are = others_are g.B.Standing.stands c.args.blocks.now k c.index-blocks-index.result c.spot-spot.result c.loop-index-test.true c.index-blocks-index.is c.spot-spot.ensures in
    record { value = goes k c.loop-index.end c.spot-spot.result _ _ _ are c.packed_place-to.result c.loop-index.invariant.left c.packed_place-to.ensures c.if-spot-to.true }

pub returns : goal.returns
returns g c = record { value = no_others g.B.Standing.stands c.args.blocks.now c.loop-index.index _ _ c.loop-index-test.false c.loop-index.invariant.left }
