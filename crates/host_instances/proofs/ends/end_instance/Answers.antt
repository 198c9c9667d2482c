use Rattle.std.proofs.Common.{◌≡◌, true, sym, ◌∙◌}
use Rattle.std.proofs.lemmas.Bool.{true≢false}
use Rattle.host_spaces.specs.MemoryMap.{map_of}
use Rattle.host_table.specs.Table.{slot_at}
use Rattle.host_table.specs.Sharers.{asked_by}
use Rattle.host_instances.specs.Ends.{sharers_among, has_members}
use Rattle.host_instances.proofs.Belonging.{none_left, none_there}
use Rattle.host_instances.proofs.FreedBlocks.{location_all}
use Rattle.host_instances.proofs.Ended.{stay_then, sizes_stay, copied_stay, map_with, map_without}
use Rattle.host_instances.proofs.ends.end_instance.Goals as goal

pub returns-then-not-members_left : goal.returns-then-not-members_left
returns-then-not-members_left g c =
    let none = sym c.members_left.ensures ∙ c.if-not-members_left.true in
    let stay = stay_then _ _ _ c.give_records.ensures.spaces c.give_blocks.ensures.spaces in
    record {
      ok = c.give_blocks.ensures.ok;
      standing = c.give_blocks.ensures.standing;
      poisoned = c.give_blocks.ensures.poisoned _ (rw (← c.tables.view_is) at c.give_records.ensures.poisoned);
      gone = (rw (← c.tables.view_is) at c.give_records.ensures.gone);
      others = (rw (← c.tables.view_is) at c.give_records.ensures.others);
      activity = λ k. c.give_blocks.ensures.activity k ∙ (rw (← c.tables.view_is) at c.give_records.ensures.activity) k;
      map = map_without c.tables.inside.instances.items _ (map_of c.give_records.new.spaces) _ (sharers_among g.M.Ialg.law.meaning.same c.tables.inside.instances.items (asked_by (slot_at c.args.tables.now.instances c.args.i))) c.args.i c.group_number-g.result _ c.group_number-g.ensures none (rw (← c.tables.view_is) at c.give_records.ensures.map) c.give_blocks.ensures.map;
      sizes = sizes_stay _ _ stay;
      copied = copied_stay _ _ stay;
      keeps = λ histories before. c.give_blocks.ensures.keeps _ histories ((rw (← c.tables.view_is) at c.give_records.ensures.keeps) histories before);
    }

pub returns-else-not-members_left : goal.returns-else-not-members_left
returns-else-not-members_left g c =
    let some : has_members c.give_records.new.tables.instances c.group_number-g.result ≡ true = rw (← c.tables.view_is) (sym c.members_left.ensures ∙ c.if-not-members_left.false) in
    record {
      ok = c.give_records.ensures.ok;
      standing = location_all c.group_number-g.result _ _ _ _ (λ none. true≢false (sym some ∙ none_left c.give_records.new.tables.instances c.group_number-g.result (λ j below. none j)))
          (rw c.group_number-g.ensures c.give_records.ensures.standing);
      poisoned = c.give_records.ensures.poisoned;
      gone = c.give_records.ensures.gone;
      others = c.give_records.ensures.others;
      activity = c.give_records.ensures.activity;
      map = map_with c.give_records.new.tables.instances _ (map_of c.give_records.new.spaces) _ (sharers_among g.M.Ialg.law.meaning.same c.give_records.new.tables.instances (asked_by (slot_at c.args.tables.now.instances c.args.i))) c.args.i c.group_number-g.result _ c.group_number-g.ensures some c.give_records.ensures.map;
      sizes = sizes_stay _ _ c.give_records.ensures.spaces;
      copied = copied_stay _ _ c.give_records.ensures.spaces;
      keeps = c.give_records.ensures.keeps;
    }

pub give_blocks-requires-clause-none : goal.give_blocks-requires-clause-none
give_blocks-requires-clause-none g c = none_there c.tables.inside.instances.items c.group_number-g.result (sym c.members_left.ensures ∙ c.if-not-members_left.true)

pub give_blocks-requires-clause-standing : goal.give_blocks-requires-clause-standing
give_blocks-requires-clause-standing g c =
    rw c.group_number-g.ensures (rw (← c.tables.view_is) at c.give_records.ensures.standing)
