use Rattle.std.proofs.Common.{Some, lit≤}
use Rattle.mem_rec.specs.declared.Space.TheVariants.{Daram}
use Rattle.test_lives.proofs.Housing.{owner, ready_group, all_gone, all_same, same_blocks_then, same_pieces_then, lent_beside, same_block_span, still_whole}
use Rattle.test_lives.proofs.neighbour_tests.members_take_turns.Goals as goal

pub filter-first-requires-clause-object : goal.filter-first-requires-clause-object
filter-first-requires-clause-object g c = owner 4 c.region-external.result.1 c.region-external.result.0 (lit≤ tt) c.region-external.ensures.size (c.region-external.ensures.region, c.region-external.ensures.whole)

pub filter-first-requires-clause-kept : goal.filter-first-requires-clause-kept
filter-first-requires-clause-kept g c = owner 4 c.region-saram.result.1 c.region-saram.result.0 (lit≤ tt) c.region-saram.ensures.size (c.region-saram.ensures.region, c.region-saram.ensures.whole)

pub filter-first-requires-clause-ready : goal.filter-first-requires-clause-ready
filter-first-requires-clause-ready g c =
    ready_group c.new-group.result c.replace.new.self c.region-daram.result.1 c.new-group.ensures.blocks c.replace.ensures.new c.replace.ensures.others
    (owner 1028 c.region-daram.result.1 c.region-daram.result.0 (lit≤ tt) c.region-daram.ensures.size (c.region-daram.ensures.region, c.region-daram.ensures.whole))

pub filter-second-requires-clause-object : goal.filter-second-requires-clause-object
filter-second-requires-clause-object g c = owner 4 c.region-other_external.result.1 c.region-other_external.result.0 (lit≤ tt) c.region-other_external.ensures.size (c.region-other_external.ensures.region, c.region-other_external.ensures.whole)

pub filter-second-requires-clause-kept : goal.filter-second-requires-clause-kept
filter-second-requires-clause-kept g c = owner 4 c.region-other_saram.result.1 c.region-other_saram.result.0 (lit≤ tt) c.region-other_saram.ensures.size (c.region-other_saram.ensures.region, c.region-other_saram.ensures.whole)

pub filter-second-requires-clause-ready : goal.filter-second-requires-clause-ready
filter-second-requires-clause-ready g c =
    ready_group c.new-group.result c.replace.new.self c.region-daram.result.1 c.new-group.ensures.blocks c.replace.ensures.new c.replace.ensures.others
    (owner 1028 c.region-daram.result.1 c.region-daram.result.0 (lit≤ tt) c.region-daram.ensures.size (c.region-daram.ensures.region, c.region-daram.ensures.whole))

pub give-second_once-requires-clause-lent : goal.give-second_once-requires-clause-lent
give-second_once-requires-clause-lent g c = lent_beside c.filter-second.ensures.lent c.give-first_once.ensures.blocks

pub control-first_asked-requires : goal.control-first_asked-requires
control-first_asked-requires g c = record { lent = lent_beside c.give-first_once.ensures.lent c.give-second_once.ensures.blocks }

pub give-second_twice-requires-clause-lent : goal.give-second_twice-requires-clause-lent
give-second_twice-requires-clause-lent g c = lent_beside c.give-second_once.ensures.lent (same_blocks_then c.give-second_once.new.group c.control-first_asked.new.group c.give-first_twice.new.group c.control-first_asked.ensures.blocks c.give-first_twice.ensures.blocks)

pub end_filter-told-requires-clause-object : goal.end_filter-told-requires-clause-object
end_filter-told-requires-clause-object g c =
    all_same c.region-external.result.0 c.filter-first.result.instance.own.p0 c.give-first_twice.result.0.instance.own.p0
    (all_same c.region-external.result.0 (Some c.region-external.result.1) c.filter-first.result.instance.own.p0 (c.region-external.ensures.region, c.region-external.ensures.whole) c.filter-first.ensures.object)
    (same_pieces_then _ _ _ (same_pieces_then _ _ _ c.give-first_once.ensures.same.own c.control-first_asked.ensures.same.own) c.give-first_twice.ensures.same.own).p0

pub end_filter-told-requires-clause-kept : goal.end_filter-told-requires-clause-kept
end_filter-told-requires-clause-kept g c =
    all_same c.region-saram.result.0 c.filter-first.result.instance.own.p1 c.give-first_twice.result.0.instance.own.p1
    (all_same c.region-saram.result.0 (Some c.region-saram.result.1) c.filter-first.result.instance.own.p1 (c.region-saram.ensures.region, c.region-saram.ensures.whole) c.filter-first.ensures.kept)
    (same_pieces_then _ _ _ (same_pieces_then _ _ _ c.give-first_once.ensures.same.own c.control-first_asked.ensures.same.own) c.give-first_twice.ensures.same.own).p1

pub end_filter-other_told-requires-clause-object : goal.end_filter-other_told-requires-clause-object
end_filter-other_told-requires-clause-object g c =
    all_same c.region-other_external.result.0 c.filter-second.result.instance.own.p0 c.give-second_twice.result.0.instance.own.p0
    (all_same c.region-other_external.result.0 (Some c.region-other_external.result.1) c.filter-second.result.instance.own.p0 (c.region-other_external.ensures.region, c.region-other_external.ensures.whole) c.filter-second.ensures.object)
    (same_pieces_then _ _ _ c.give-second_once.ensures.same.own c.give-second_twice.ensures.same.own).p0

pub end_filter-other_told-requires-clause-kept : goal.end_filter-other_told-requires-clause-kept
end_filter-other_told-requires-clause-kept g c =
    all_same c.region-other_saram.result.0 c.filter-second.result.instance.own.p1 c.give-second_twice.result.0.instance.own.p1
    (all_same c.region-other_saram.result.0 (Some c.region-other_saram.result.1) c.filter-second.result.instance.own.p1 (c.region-other_saram.ensures.region, c.region-other_saram.ensures.whole) c.filter-second.ensures.kept)
    (same_pieces_then _ _ _ c.give-second_once.ensures.same.own c.give-second_twice.ensures.same.own).p1

pub end-requires : goal.end-requires
end-requires g c =
    let ready = ready_group c.new-group.result c.replace.new.self c.region-daram.result.1 c.new-group.ensures.blocks c.replace.ensures.new c.replace.ensures.others
    (owner 1028 c.region-daram.result.1 c.region-daram.result.0 (lit≤ tt) c.region-daram.ensures.size (c.region-daram.ensures.region, c.region-daram.ensures.whole)) in
    let same = same_blocks_then c.replace.new.self c.give-first_once.new.group c.give-second_twice.new.group c.give-first_once.ensures.blocks (same_blocks_then c.give-first_once.new.group c.give-second_once.new.group c.give-second_twice.new.group c.give-second_once.ensures.blocks (same_blocks_then c.give-second_once.new.group c.control-first_asked.new.group c.give-second_twice.new.group c.control-first_asked.ensures.blocks (same_blocks_then c.control-first_asked.new.group c.give-first_twice.new.group c.give-second_twice.new.group c.give-first_twice.ensures.blocks c.give-second_twice.ensures.blocks))) in
    all_gone c.replace.new.self c.give-second_twice.new.group c.take_block-block.new.group ready same c.take_block-block.ensures.others c.take_block-block.ensures.new

pub close-requires : goal.close-requires
close-requires g c =
    let same = same_blocks_then c.replace.new.self c.give-first_once.new.group c.give-second_twice.new.group c.give-first_once.ensures.blocks (same_blocks_then c.give-first_once.new.group c.give-second_once.new.group c.give-second_twice.new.group c.give-second_once.ensures.blocks (same_blocks_then c.give-second_once.new.group c.control-first_asked.new.group c.give-second_twice.new.group c.control-first_asked.ensures.blocks (same_blocks_then c.control-first_asked.new.group c.give-first_twice.new.group c.give-second_twice.new.group c.give-first_twice.ensures.blocks c.give-second_twice.ensures.blocks))) in
    let back = same_block_span 16 c.region-daram.result.1 c.take_block-block.result c.replace.new.self.daram c.give-second_twice.new.group.daram c.replace.ensures.new (same Daram) c.take_block-block.ensures.old in
    let whole = still_whole c.region-daram.result.1 _ c.region-daram.result.0 (c.region-daram.ensures.region, c.region-daram.ensures.whole) back in
    record { region = whole.0; whole = whole.1 }
