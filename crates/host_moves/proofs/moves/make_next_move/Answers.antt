use Rattle.std.proofs.Common.{is_some, true≢false, sym, ap, ◌∙◌, arith}
use Rattle.std.proofs.lemmas.Option.{same_Some}
use Rattle.host_map.specs.declared.placed.Placed.{Placed}
use Rattle.host_table.proofs.Changes.{slot_in, owners_of_slot}
use Rattle.host_moves.proofs.Nexts.{index_before, next_record, some_before}
use Rattle.host_moves.proofs.BlockMoves.{record_number, own_there, group_number}
use Rattle.host_moves.proofs.Fronts.{front_stands}
use Rattle.host_moves.proofs.moves.make_next_move.Goals as goal

pub overflow_sub-index : goal.overflow_sub-index
overflow_sub-index g c = some_before _ _ (c.next_move_behind.ensures.index (ap is_some c.in-Some.is))

pub move_once-requires-clause-index : goal.move_once-requires-clause-index
move_once-requires-clause-index g c = index_before _ _ (c.next_move_behind.ensures.index (ap is_some c.in-Some.is))

pub move_own-requires-clause-index : goal.move_own-requires-clause-index
move_own-requires-clause-index g c = index_before _ _ (c.next_move_behind.ensures.index (ap is_some c.in-Some.is))

pub move_block-requires-clause-index : goal.move_block-requires-clause-index
move_block-requires-clause-index g c = index_before _ _ (c.next_move_behind.ensures.index (ap is_some c.in-Some.is))

pub sees-requires-clause-number : goal.sees-requires-clause-number
sees-requires-clause-number g c =
    let its = next_record _ _ _ c.args.spaces.now c.args.space c.in-Record.i c.in-Record.k (rw (← c.tables.view_is) at c.requires.standing) (c.in-Some.block, (sym c.next_move_behind.ensures.value ∙ c.in-Some.is, c.in-Record.is)) in
    let inside = slot_in c.tables.inside.instances.items c.in-Record.i its.member its.there in
    omega (arith, inside, (rw (← c.tables.view_is) at c.requires.ok).slot_count, (rw (← c.tables.view_is) at c.requires.ok).sharing_count)

pub sees-requires-clause-record : goal.sees-requires-clause-record
sees-requires-clause-record g c =
    record_number c.tables.inside.instances.items c.tables.inside.sharing.items c.args.spaces.now c.args.space c.in-Record.i c.in-Record.k
    (next_record _ _ _ c.args.spaces.now c.args.space c.in-Record.i c.in-Record.k (rw (← c.tables.view_is) at c.requires.standing) (c.in-Some.block, (sym c.next_move_behind.ensures.value ∙ c.in-Some.is, c.in-Record.is)))

pub sees-requires-clause-owners : goal.sees-requires-clause-owners
sees-requires-clause-owners g c =
    let its = next_record _ _ _ c.args.spaces.now c.args.space c.in-Record.i c.in-Record.k (rw (← c.tables.view_is) at c.requires.standing) (c.in-Some.block, (sym c.next_move_behind.ensures.value ∙ c.in-Some.is, c.in-Record.is)) in
    owners_of_slot _ _ _ (rw (← c.tables.view_is) at c.requires.ok) c.in-Record.i its.member its.there

pub move_own-requires-clause-own : goal.move_own-requires-clause-own
move_own-requires-clause-own g c =
    rw (← c.tables.view_is)
    (own_there c.tables.inside.instances.items c.tables.inside.sharing.items c.args.spaces.now c.args.space c.in-Record.i c.in-Record.k
    (next_record _ _ _ c.args.spaces.now c.args.space c.in-Record.i c.in-Record.k (rw (← c.tables.view_is) at c.requires.standing) (c.in-Some.block, (sym c.next_move_behind.ensures.value ∙ c.in-Some.is, c.in-Record.is)))
    (sym c.sees.ensures ∙ c.if-sees.false))

pub move_own-requires-clause-unshared : goal.move_own-requires-clause-unshared
move_own-requires-clause-unshared g c = rw (← c.tables.view_is) (sym c.sees.ensures ∙ c.if-sees.false)

pub move_block-requires-clause-standing : goal.move_block-requires-clause-standing
move_block-requires-clause-standing g c = c.requires.standing

pub move_block-requires-clause-number : goal.move_block-requires-clause-number
move_block-requires-clause-number g c =
    let next = sym c.next_move_behind.ensures.value ∙ c.in-Some.is in
    group_number _ _ _ c.args.spaces.now c.args.space c.in-Scratch.g c.in-Some.block.align c.requires.ok c.requires.standing (c.in-Some.block, (next, c.in-Scratch.is))
    (λ b e. ap (λ (x : Placed). x.align) (same_Some b c.in-Some.block (sym e ∙ next)))

pub returns-then-sees-clause-answer : goal.returns-then-sees-clause-answer
returns-then-sees-clause-answer g c = ap is_some (sym c.in-Some.is ∙ c.next_move_behind.ensures.value)

pub returns-then-sees-clause-moved : goal.returns-then-sees-clause-moved
returns-then-sees-clause-moved g c told = c.move_once.ensures

pub returns-then-sees-clause-packed : goal.returns-then-sees-clause-packed
returns-then-sees-clause-packed g c none = absurd (true≢false none)

pub returns-else-sees-clause-answer : goal.returns-else-sees-clause-answer
returns-else-sees-clause-answer g c = ap is_some (sym c.in-Some.is ∙ c.next_move_behind.ensures.value)

pub returns-else-sees-clause-moved : goal.returns-else-sees-clause-moved
returns-else-sees-clause-moved g c told = c.move_own.ensures

pub returns-else-sees-clause-packed : goal.returns-else-sees-clause-packed
returns-else-sees-clause-packed g c none = absurd (true≢false none)

pub returns-in-Scratch-clause-answer : goal.returns-in-Scratch-clause-answer
returns-in-Scratch-clause-answer g c = ap is_some (sym c.in-Some.is ∙ c.next_move_behind.ensures.value)

pub returns-in-Scratch-clause-moved : goal.returns-in-Scratch-clause-moved
returns-in-Scratch-clause-moved g c told = c.move_block.ensures

pub returns-in-Scratch-clause-packed : goal.returns-in-Scratch-clause-packed
returns-in-Scratch-clause-packed g c none = absurd (true≢false none)

pub returns-then-sees-clause-front : goal.returns-then-sees-clause-front
returns-then-sees-clause-front g c = front_stands c.args.spaces.now c.move_once.new.spaces c.args.space _ c.move_once.ensures.map (c.next_move_behind.ensures.front (ap is_some c.in-Some.is))

pub returns-else-sees-clause-front : goal.returns-else-sees-clause-front
returns-else-sees-clause-front g c = front_stands c.args.spaces.now c.move_own.new.spaces c.args.space _ c.move_own.ensures.map (c.next_move_behind.ensures.front (ap is_some c.in-Some.is))

pub returns-in-Scratch-clause-front : goal.returns-in-Scratch-clause-front
returns-in-Scratch-clause-front g c = front_stands c.args.spaces.now c.move_block.new.spaces c.args.space _ c.move_block.ensures.map (c.next_move_behind.ensures.front (ap is_some c.in-Some.is))
