use Rattle.std.proofs.Common.{rules, ◌≡◌, ◌<◌, ℕ, zero, suc, false, Option, Some, None, IsSome, is_some, length, true≢false, refl, sym, ◌∙◌}
use Rattle.std.proofs.lemmas.Option.{none-some}
use Rattle.record_loans.specs.Pieces.{piece_at, no_pieces}
use Rattle.host_table.specs.declared.member.Member.{Member}
use Rattle.host_table.specs.Table.{own_of, slot_at}
use Rattle.host_table.proofs.Changes.{read_there, slot_in}
use Rattle.host_moves.proofs.records.take_own.Goals as goal

no_piece : (k : ℕ) → is_some (piece_at no_pieces k) ≡ false
no_piece zero = refl
no_piece (suc zero) = refl
no_piece (suc (suc zero)) = refl
no_piece (suc (suc (suc zero))) = refl
no_piece (suc (suc (suc (suc k)))) = refl

-- an instance with a piece stands there
owner_of : {M : Type 0} (slot : Option (Member M)) (k : ℕ) → IsSome (piece_at (own_of slot) k) → (m : Member M) × (slot ≡ Some m)
owner_of None k there = absurd (true≢false (sym there ∙ no_piece k))
owner_of (Some m) k there = (m, refl)

pub index_mut-requires : goal.index_mut-requires
index_mut-requires g c =
    let m = owner_of (slot_at c.args.instances.now.items c.args.i) c.args.k c.requires in
    let inside : c.args.i < length c.args.instances.now.items = slot_in c.args.instances.now.items c.args.i m.0 m.1 in
    search (inside, rules)

pub detach-requires : goal.detach-requires
detach-requires g c =
    let m = owner_of (slot_at c.args.instances.now.items c.args.i) c.args.k c.requires in
    rw (read_there c.args.instances.now.items c.args.i m.0 m.1 _ c.index_mut.ensures.value ∙ c.in-Some.is, c.in-Idling.is) at c.requires

pub detach-requires-in-Running : goal.detach-requires-in-Running
detach-requires-in-Running g c =
    let m = owner_of (slot_at c.args.instances.now.items c.args.i) c.args.k c.requires in
    rw (read_there c.args.instances.now.items c.args.i m.0 m.1 _ c.index_mut.ensures.value ∙ c.in-Some.is, c.in-Running.is) at c.requires

pub unreachable-requires : goal.unreachable-requires
unreachable-requires g c =
    let m = owner_of (slot_at c.args.instances.now.items c.args.i) c.args.k c.requires in
    none-some _ (sym (read_there c.args.instances.now.items c.args.i m.0 m.1 _ c.index_mut.ensures.value ∙ c.in-None.is) ∙ m.1)

pub returns-in-Idling-clause-piece : goal.returns-in-Idling-clause-piece
returns-in-Idling-clause-piece g c =
    let m = owner_of (slot_at c.args.instances.now.items c.args.i) c.args.k c.requires in
    rw (read_there c.args.instances.now.items c.args.i m.0 m.1 _ c.index_mut.ensures.value ∙ c.in-Some.is, c.in-Idling.is) c.detach.ensures.piece

pub returns-in-Idling-clause-left : goal.returns-in-Idling-clause-left
returns-in-Idling-clause-left g c =
    let m = owner_of (slot_at c.args.instances.now.items c.args.i) c.args.k c.requires in
    rw (read_there c.args.instances.now.items c.args.i m.0 m.1 _ c.index_mut.ensures.value ∙ c.in-Some.is, c.in-Idling.is, c.detach.ensures.left)

pub returns-in-Running-clause-piece : goal.returns-in-Running-clause-piece
returns-in-Running-clause-piece g c =
    let m = owner_of (slot_at c.args.instances.now.items c.args.i) c.args.k c.requires in
    rw (read_there c.args.instances.now.items c.args.i m.0 m.1 _ c.index_mut.ensures.value ∙ c.in-Some.is, c.in-Running.is) c.detach-in-Running.ensures.piece

pub returns-in-Running-clause-left : goal.returns-in-Running-clause-left
returns-in-Running-clause-left g c =
    let m = owner_of (slot_at c.args.instances.now.items c.args.i) c.args.k c.requires in
    rw (read_there c.args.instances.now.items c.args.i m.0 m.1 _ c.index_mut.ensures.value ∙ c.in-Some.is, c.in-Running.is, c.detach-in-Running.ensures.left)
