use Rattle.std.proofs.Common.{◌≡◌, Some, None, get_or-set_same, set-set, sym, ◌∙◌}
use Rattle.std.proofs.lemmas.Option.{same_Some}
use Rattle.host_table.specs.Table.{slot_at}
use Rattle.host_table.proofs.Changes.{read_there, slot_in}
use Rattle.host_table.proofs.Goings.{member_of}
use Rattle.host_table.proofs.life.end_idle.Goals as goal

pub free_member-own-requires-clause-lent : goal.free_member-own-requires-clause-lent
free_member-own-requires-clause-lent g c =
    let there = member_of c.args.instances.now.items c.args.i c.requires.living in
    let at : slot_at c.args.instances.now.items c.args.i ≡ Some c.in-Some.member = read_there c.args.instances.now.items c.args.i there.0 there.1 _ c.index_mut.ensures.value ∙ c.in-Some.is in
    c.requires.lent c.in-Some.member at

pub empty_slot-requires : goal.empty_slot-requires
empty_slot-requires g c =
    let there = member_of c.args.instances.now.items c.args.i c.requires.living in
    let at : slot_at c.args.instances.now.items c.args.i ≡ Some c.in-Some.member = read_there c.args.instances.now.items c.args.i there.0 there.1 _ c.index_mut.ensures.value ∙ c.in-Some.is in
    (record { group = c.in-Some.member.group; inst = c.free_member-own.new.inst }, get_or-set_same c.args.instances.now.items c.args.i _ None (slot_in c.args.instances.now.items c.args.i c.in-Some.member at), c.free_member-own.ensures.left)

pub returns-clause-emptied : goal.returns-clause-emptied
returns-clause-emptied g c = c.empty_slot.ensures ∙ set-set c.args.instances.now.items c.args.i _ None

pub returns-clause-own : goal.returns-clause-own
returns-clause-own g c =
    let there = member_of c.args.instances.now.items c.args.i c.requires.living in
    let at : slot_at c.args.instances.now.items c.args.i ≡ Some c.in-Some.member = read_there c.args.instances.now.items c.args.i there.0 there.1 _ c.index_mut.ensures.value ∙ c.in-Some.is in
    rw at c.free_member-own.ensures.freed.own

pub returns-clause-once : goal.returns-clause-once
returns-clause-once g c m in_slot =
    let there = member_of c.args.instances.now.items c.args.i c.requires.living in
    let at : slot_at c.args.instances.now.items c.args.i ≡ Some c.in-Some.member = read_there c.args.instances.now.items c.args.i there.0 there.1 _ c.index_mut.ensures.value ∙ c.in-Some.is in
    let same : c.in-Some.member ≡ m = same_Some _ _ (sym at ∙ in_slot) in
    rw (← same) c.free_member-own.ensures.freed.once
