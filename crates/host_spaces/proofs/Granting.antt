-- What was granted to an instance and its group.
use Rattle.std.proofs.Common.{◌≡◌, ◌≢◌, inl, inr, ℕ, ℤ, zero, suc, ◌≤◌, Bool, true, false, if◌then◌else◌, IsTrue, List, [], ◌∷◌, length, Option, Some, None, ◌||◌, is_some, refl, sym, ap, ◌∙◌, arith}
use Rattle.std.proofs.Math.ListN.{get_or-eq_default}
use Rattle.std.proofs.lemmas.List.Elements.{All-nil}
use Rattle.mem_rec.specs.declared.MemRec.{MemRec}
use Rattle.mem_rec.specs.declared.Space.{Space}
use Rattle.mem_rec.specs.declared.Space.TheVariants.{Daram, Saram, External}
use Rattle.mem_rec.specs.declared.Attr.{Attr}
use Rattle.mem_rec.specs.declared.Attr.TheVariants.{Persist, WriteOnce, Scratch as ScratchRecord}
use Rattle.mem_rec.specs.Records.{is_persistent, is_scratch, is_table, same_space}
use Rattle.mem_rec.proofs.Valid.{within_limits}
use Rattle.space_raw.specs.Span.{Extent, Span}
use Rattle.relocate.specs.Places.{placed_size}
use Rattle.ialg.specs.Records.{ArePoison, record_at}
use Rattle.record_loans.specs.Blocks.{block_words}
use Rattle.record_loans.specs.Pieces.{piece_at, piece_words}
use Rattle.scratch_group.specs.declared.group.Group.{Group}
use Rattle.scratch_group.specs.declared.group.Need.{Need}
use Rattle.host_map.specs.declared.placed.Owner.{Owner}
use Rattle.host_map.specs.declared.placed.Owner.TheVariants.{Record, Scratch}
use Rattle.host_spaces.specs.Blocks.{block_of, block_of_piece}
use Rattle.host_map.specs.Blocks.{owned, with_block}
use Rattle.host_spaces.specs.declared.granted.Granted.{Granted}
use Rattle.host_spaces.specs.declared.spaces.Spaces.{Spaces}
use Rattle.host_map.specs.declared.parts.Wanted.{Wanted}
use Rattle.host_map.specs.MemoryMap.{blocks_in}
use Rattle.host_spaces.specs.MemoryMap.{map_of, space_in}
use Rattle.host_map.specs.Creation.{record_wanted}
use Rattle.lifecycle.specs.Rooms.{lasting_piece}
use Rattle.host_spaces.specs.Pieces.{ArePlacedPieces, AreSharable, HasRecords, IsNeeded, IsPieceOf, IsPoisoned, as_block, is_placed_once, is_write_once, kept_piece, lent_piece, new_block, placement_of, record_block, with_new}
use Rattle.host_spaces.specs.Wants.{IsFor, IsGranted, block_need, need_wanted, slot_at, want_at, wants_of}
use Rattle.host_spaces.proofs.Maps.{by_space, seen_blocks}
use Rattle.host_spaces.proofs.Steps.{entry_of, entry_of_step, owner_of_step}

no_poison : (word : Option ℤ) → ArePoison word []
no_poison None = tt
no_poison (Some v) = All-nil (λ x. x ≡ v)

-- ---- a record's piece

pub record RecordPiece (owner : Extent) (size : ℕ) (a : Attr) (sharer : Option ℕ) (p : Option Span) : Type 0 where
  pub own : ((j : ℕ) → sharer ≡ Some j → is_write_once a ≡ true) → IsPieceOf owner size (is_persistent a) (kept_piece (is_write_once a) p)
  pub shared : IsPieceOf owner size (is_placed_once sharer a) (lent_piece (is_write_once a) p)
  pub lasting : lasting_piece a (kept_piece (is_write_once a) p) (lent_piece (is_write_once a) p) ≡ p

piece_by : (spaces : Spaces) (a : Attr) (sharer : Option ℕ) (w : Wanted) (p : Option Span) → IsFor spaces (if is_scratch a || is_some sharer then None else Some w) p
    → RecordPiece (space_in spaces w.space).region w.size a sharer p
piece_by spaces ScratchRecord None w None it = record { own = λ once. refl; shared = refl; lasting = refl }
piece_by spaces ScratchRecord (Some sharer) w None it = record { own = λ once. refl; shared = refl; lasting = refl }
piece_by spaces ScratchRecord sharer w (Some p) it = absurd it
piece_by spaces Persist None w None it = absurd it
piece_by spaces Persist None w (Some p) it = record { own = λ once. (refl, it.0, it.1); shared = refl; lasting = refl }
piece_by spaces Persist (Some sharer) w None it = record { own = λ once. let bad : false ≡ true = once sharer refl in cc; shared = refl; lasting = refl }
piece_by spaces Persist (Some sharer) w (Some p) it = absurd it
piece_by spaces WriteOnce None w None it = absurd it
piece_by spaces WriteOnce None w (Some p) it = record { own = λ once. refl; shared = (refl, it.0, it.1); lasting = refl }
piece_by spaces WriteOnce (Some sharer) w None it = record { own = λ once. refl; shared = refl; lasting = refl }
piece_by spaces WriteOnce (Some sharer) w (Some p) it = absurd it

record_piece : (spaces : Spaces) (sharers : ℕ → Option ℕ) (i k : ℕ) (r : MemRec) (p : Option Span) → IsFor spaces (record_wanted sharers i k r) p
    → RecordPiece (space_in spaces r.space).region (placed_size r.size) r.attr (sharers k) p
record_piece spaces sharers i k r p it = piece_by spaces r.attr (sharers k) (record { space = r.space; owner = Record i k; size = placed_size r.size; align = r.align }) p it

past_end : (table : List MemRec) (k : ℕ) → length table ≤ 4 → 4 ≤ k → (record_at table k).attr ≡ ScratchRecord
past_end table k few le = ap (λ (r : MemRec). r.attr) (get_or-eq_default table (record { size = 0; align = 0; space = Daram; attr = ScratchRecord; base = 0 }) (omega arith))

never_placed : (sharer : Option ℕ) (a : Attr) → a ≡ ScratchRecord → is_placed_once sharer a ≡ false
never_placed None a e = ap is_write_once e
never_placed (Some sharer) a e = refl

module _ (old new : Spaces) (word : Option ℤ) (sharers : ℕ → Option ℕ) (i g : ℕ) (table : List MemRec) (group : Group) (made : Granted)
    (granted : IsGranted old new word 0 (wants_of sharers i g table group) made) (sharable : AreSharable table sharers) (t : IsTrue (is_table table)) where
  few : length table ≤ 4
  few = (within_limits table t).few

  own : (k : ℕ) → IsPieceOf (space_in old (record_at table k).space).region (placed_size (record_at table k).size) (is_persistent (record_at table k).attr) (piece_at (placement_of table (wants_of sharers i g table group) made).own k)
  own zero = (record_piece old sharers i 0 (record_at table 0) made.p0 (granted.slots 0 (omega arith))).own (sharable 0)
  own (suc zero) = (record_piece old sharers i 1 (record_at table 1) made.p1 (granted.slots 1 (omega arith))).own (sharable 1)
  own (suc (suc zero)) = (record_piece old sharers i 2 (record_at table 2) made.p2 (granted.slots 2 (omega arith))).own (sharable 2)
  own (suc (suc (suc zero))) = (record_piece old sharers i 3 (record_at table 3) made.p3 (granted.slots 3 (omega arith))).own (sharable 3)
  own (suc (suc (suc (suc k)))) = ap is_persistent (past_end table (suc (suc (suc (suc k)))) few (omega arith))

  shared : (k : ℕ) → IsPieceOf (space_in old (record_at table k).space).region (placed_size (record_at table k).size) (is_placed_once (sharers k) (record_at table k).attr) (piece_at (placement_of table (wants_of sharers i g table group) made).shared k)
  shared zero = (record_piece old sharers i 0 (record_at table 0) made.p0 (granted.slots 0 (omega arith))).shared
  shared (suc zero) = (record_piece old sharers i 1 (record_at table 1) made.p1 (granted.slots 1 (omega arith))).shared
  shared (suc (suc zero)) = (record_piece old sharers i 2 (record_at table 2) made.p2 (granted.slots 2 (omega arith))).shared
  shared (suc (suc (suc zero))) = (record_piece old sharers i 3 (record_at table 3) made.p3 (granted.slots 3 (omega arith))).shared
  shared (suc (suc (suc (suc k)))) = never_placed (sharers (suc (suc (suc (suc k))))) (record_at table (suc (suc (suc (suc k))))).attr (past_end table (suc (suc (suc (suc k)))) few (omega arith))

  pub pieces_made : ArePlacedPieces old table sharers (placement_of table (wants_of sharers i g table group) made).own (placement_of table (wants_of sharers i g table group) made).shared
  pieces_made = record { persistent = own; write_once = shared }

-- ---- the blocks of the instance and of its group

pub block_if : (t : Bool) (i k : ℕ) (r : MemRec) (space : Space) → (if t then block_of_piece (Record i k) r.align None else []) ≡ []
block_if true i k r space = refl
block_if false i k r space = refl

pub itself_space : (a : Space) → same_space a a ≡ true
itself_space Daram = refl
itself_space Saram = refl
itself_space External = refl

pub other_is : (a b : Space) → b ≢ a → same_space a b ≡ false
other_is Daram Daram apart = absurd (apart refl)
other_is Daram Saram apart = refl
other_is Daram External apart = refl
other_is Saram Daram apart = refl
other_is Saram Saram apart = absurd (apart refl)
other_is Saram External apart = refl
other_is External Daram apart = refl
other_is External Saram apart = refl
other_is External External apart = absurd (apart refl)

module _ (old new : Spaces) (word : Option ℤ) (sharers : ℕ → Option ℕ) (i g : ℕ) (table : List MemRec) (group : Group) (made : Granted)
    (granted : IsGranted old new word 0 (wants_of sharers i g table group) made) (none : (k : ℕ) (space : Space) → owned (Record i k) (space_in old space).blocks ≡ []) where
  -- an owner that wants nothing in a space
  unseen : (o : Owner) (space : Space) → want_at (wants_of sharers i g table group) (entry_of o space) ≡ None → owned o (space_in new space).blocks ≡ owned o (space_in old space).blocks
  unseen o space nothing =
      granted.others o space
      (λ j w le at there same. let entry = entry_of_step sharers i g table group j w at in
      let is : entry_of o space ≡ j = ap (λ x. entry_of x space) same ∙ ap (entry_of w.owner) (sym there) ∙ entry in
      let bad : None ≡ Some w = sym nothing ∙ ap (want_at (wants_of sharers i g table group)) is ∙ at in cc)

  -- an owner that wants something elsewhere
  elsewhere : (o : Owner) (space : Space) (v : Wanted) → want_at (wants_of sharers i g table group) (entry_of o space) ≡ Some v → space ≢ v.space → owned o (space_in new space).blocks ≡ owned o (space_in old space).blocks
  elsewhere o space v some away =
      granted.others o space
      (λ j w le at there same. let entry = entry_of_step sharers i g table group j w at in
      let is : entry_of o space ≡ j = ap (λ x. entry_of x space) same ∙ ap (entry_of w.owner) (sym there) ∙ entry in
      let both : Some v ≡ Some w = sym some ∙ ap (want_at (wants_of sharers i g table group)) is ∙ at in let one : v ≡ w = cc in
      away (sym there ∙ sym (ap (λ (x : Wanted). x.space) one)))

  lasting_seen : (k : ℕ) (r : MemRec) (p : Span) → ((space : Space) → entry_of (Record i k) space ≡ k) → slot_at made k ≡ Some p
      → want_at (wants_of sharers i g table group) k ≡ Some (record { space = r.space; owner = Record i k; size = placed_size r.size; align = r.align })
      → (space : Space) → owned (Record i k) (space_in new space).blocks ≡ record_block i k r space (Some p)
  lasting_seen k r p entry slot is space =
      let w : Wanted = record { space = r.space; owner = Record i k; size = placed_size r.size; align = r.align } in let b = block_of (Record i k) r.align p in
      by_space r.space space (λ (s : Space). owned (Record i k) (space_in new s).blocks ≡ record_block i k r s (Some p))
      (granted.blocks k w p (omega arith) is slot ∙ ap (with_block b) (none k r.space) ∙ sym (ap (λ t. if t then b ∷ [] else []) (itself_space r.space)))
      (λ away. elsewhere (Record i k) space w (ap (want_at (wants_of sharers i g table group)) (entry space) ∙ is) away ∙ none k space
      ∙ sym (ap (λ t. if t then b ∷ [] else []) (other_is r.space space away)))

  nothing_seen : (k : ℕ) (r : MemRec) → ((space : Space) → entry_of (Record i k) space ≡ k) → want_at (wants_of sharers i g table group) k ≡ None
      → (space : Space) → owned (Record i k) (space_in new space).blocks ≡ record_block i k r space None
  nothing_seen k r entry is space =
      unseen (Record i k) space (ap (want_at (wants_of sharers i g table group)) (entry space) ∙ is) ∙ none k space ∙ sym (block_if (same_space r.space space) i k r space)

  -- the blocks of a record, which has its number
  record_seen : (k : ℕ) (a : Attr) (sharer : Option ℕ) (r : MemRec) (p : Option Span) → ((space : Space) → entry_of (Record i k) space ≡ k) → slot_at made k ≡ p
      → want_at (wants_of sharers i g table group) k ≡ (if is_scratch a || is_some sharer then None else Some (record { space = r.space; owner = Record i k; size = placed_size r.size; align = r.align }))
      → IsFor old (if is_scratch a || is_some sharer then None else Some (record { space = r.space; owner = Record i k; size = placed_size r.size; align = r.align })) p
      → (space : Space) → owned (Record i k) (space_in new space).blocks ≡ record_block i k r space p
  record_seen k ScratchRecord sharer r None entry slot is it space = nothing_seen k r entry is space
  record_seen k ScratchRecord sharer r (Some p) entry slot is it space = absurd it
  record_seen k Persist (Some sharer) r None entry slot is it space = nothing_seen k r entry is space
  record_seen k Persist (Some sharer) r (Some p) entry slot is it space = absurd it
  record_seen k Persist None r None entry slot is it space = absurd it
  record_seen k Persist None r (Some p) entry slot is it space = lasting_seen k r p entry slot is space
  record_seen k WriteOnce (Some sharer) r None entry slot is it space = nothing_seen k r entry is space
  record_seen k WriteOnce (Some sharer) r (Some p) entry slot is it space = absurd it
  record_seen k WriteOnce None r None entry slot is it space = absurd it
  record_seen k WriteOnce None r (Some p) entry slot is it space = lasting_seen k r p entry slot is space

  pub records_made : IsTrue (is_table table) → HasRecords (map_of new) i table (placement_of table (wants_of sharers i g table group) made).own (placement_of table (wants_of sharers i g table group) made).shared
  records_made t zero space =
      ap (owned (Record i 0)) (seen_blocks new space) ∙ record_seen 0 (record_at table 0).attr (sharers 0) (record_at table 0) made.p0 (λ s. refl) refl refl (granted.slots 0 (omega arith)) space
      ∙ sym (ap (record_block i 0 (record_at table 0) space) (record_piece old sharers i 0 (record_at table 0) made.p0 (granted.slots 0 (omega arith))).lasting)
  records_made t (suc zero) space =
      ap (owned (Record i 1)) (seen_blocks new space) ∙ record_seen 1 (record_at table 1).attr (sharers 1) (record_at table 1) made.p1 (λ s. refl) refl refl (granted.slots 1 (omega arith)) space
      ∙ sym (ap (record_block i 1 (record_at table 1) space) (record_piece old sharers i 1 (record_at table 1) made.p1 (granted.slots 1 (omega arith))).lasting)
  records_made t (suc (suc zero)) space =
      ap (owned (Record i 2)) (seen_blocks new space) ∙ record_seen 2 (record_at table 2).attr (sharers 2) (record_at table 2) made.p2 (λ s. refl) refl refl (granted.slots 2 (omega arith)) space
      ∙ sym (ap (record_block i 2 (record_at table 2) space) (record_piece old sharers i 2 (record_at table 2) made.p2 (granted.slots 2 (omega arith))).lasting)
  records_made t (suc (suc (suc zero))) space =
      ap (owned (Record i 3)) (seen_blocks new space) ∙ record_seen 3 (record_at table 3).attr (sharers 3) (record_at table 3) made.p3 (λ s. refl) refl refl (granted.slots 3 (omega arith)) space
      ∙ sym (ap (record_block i 3 (record_at table 3) space) (record_piece old sharers i 3 (record_at table 3) made.p3 (granted.slots 3 (omega arith))).lasting)
  records_made t (suc (suc (suc (suc k)))) space =
      let n = suc (suc (suc (suc k))) in
      ap (owned (Record i n)) (seen_blocks new space) ∙ unseen (Record i n) space refl ∙ none n space
      ∙ sym (ap (λ a. record_block i n (record_at table n) space (lasting_piece a None None)) (past_end table n (within_limits table t).few (omega arith)) ∙ block_if (same_space (record_at table n).space space) i n (record_at table n) space)

  block_seen : (j : ℕ) (space : Space) (n : Option Need) (p : Option Span) → entry_of (Scratch g) space ≡ j → want_at (wants_of sharers i g table group) j ≡ need_wanted g space n → slot_at made j ≡ p
      → IsFor old (need_wanted g space n) p → owned (Scratch g) (space_in new space).blocks ≡ with_new g (as_block (need_wanted g space n) p) (owned (Scratch g) (space_in old space).blocks)
  block_seen j space None None entry is slot it = unseen (Scratch g) space (ap (want_at (wants_of sharers i g table group)) entry ∙ is)
  block_seen j space None (Some p) entry is slot it = absurd it
  block_seen j space (Some n) None entry is slot it = absurd it
  block_seen j space (Some n) (Some p) entry is slot it = granted.blocks j (record { space = space; owner = Scratch g; size = n.size; align = n.align }) p (omega arith) is slot

  pub blocks_made : (space : Space) → owned (Scratch g) (blocks_in (map_of new) space)
      ≡ with_new g (new_block (placement_of table (wants_of sharers i g table group) made).blocks space) (owned (Scratch g) (blocks_in (map_of old) space))
  blocks_made Daram = block_seen 4 Daram (block_need table group Daram) made.p4 refl refl refl (granted.slots 4 (omega arith))
  blocks_made Saram = block_seen 5 Saram (block_need table group Saram) made.p5 refl refl refl (granted.slots 5 (omega arith))
  blocks_made External = block_seen 6 External (block_need table group External) made.p6 refl refl refl (granted.slots 6 (omega arith))

  needed_by : (space : Space) (n : Option Need) (p : Option Span) → IsFor old (need_wanted g space n) p → IsNeeded (space_in old space).region n (as_block (need_wanted g space n) p)
  needed_by space None None it = it
  needed_by space None (Some p) it = absurd it
  needed_by space (Some n) None it = absurd it
  needed_by space (Some n) (Some p) it = (it.0, it.1, refl)

  pub needed_made : (space : Space) → IsNeeded (space_in old space).region (block_need table group space) (new_block (placement_of table (wants_of sharers i g table group) made).blocks space)
  needed_made Daram = needed_by Daram (block_need table group Daram) made.p4 (granted.slots 4 (omega arith))
  needed_made Saram = needed_by Saram (block_need table group Saram) made.p5 (granted.slots 5 (omega arith))
  needed_made External = needed_by External (block_need table group External) made.p6 (granted.slots 6 (omega arith))

  pub others_made : (o : Owner) (space : Space) → o ≢ Scratch g → ((k : ℕ) → o ≢ Record i k) → owned o (blocks_in (map_of new) space) ≡ owned o (blocks_in (map_of old) space)
  others_made o space not_group not_record =
      ap (owned o) (seen_blocks new space)
      ∙ granted.others o space (λ j w le at there same. elim (owner_of_step sharers i g table group j w at) [
        | inl r ↦ not_record j (same ∙ r)
        | inr s ↦ not_group (same ∙ s)
      ])
      ∙ sym (ap (owned o) (seen_blocks old space))

  kept_poison : (once : Bool) (p : Option Span) → ArePoison word (piece_words p) → ArePoison word (piece_words (kept_piece once p))
  kept_poison true p it = no_poison word
  kept_poison false p it = it

  lent_poison : (once : Bool) (p : Option Span) → ArePoison word (piece_words p) → ArePoison word (piece_words (lent_piece once p))
  lent_poison true p it = it
  lent_poison false p it = no_poison word

  block_poison : (w : Option Wanted) (p : Option Span) → ArePoison word (piece_words p) → ArePoison word (block_words (as_block w p))
  block_poison None None it = no_poison word
  block_poison (Some w) None it = no_poison word
  block_poison None (Some p) it = no_poison word
  block_poison (Some w) (Some p) it = it

  own_poison : (k : ℕ) → ArePoison word (piece_words (piece_at (placement_of table (wants_of sharers i g table group) made).own k))
  own_poison zero = kept_poison (is_write_once (record_at table 0).attr) made.p0 (granted.poison 0)
  own_poison (suc zero) = kept_poison (is_write_once (record_at table 1).attr) made.p1 (granted.poison 1)
  own_poison (suc (suc zero)) = kept_poison (is_write_once (record_at table 2).attr) made.p2 (granted.poison 2)
  own_poison (suc (suc (suc zero))) = kept_poison (is_write_once (record_at table 3).attr) made.p3 (granted.poison 3)
  own_poison (suc (suc (suc (suc k)))) = no_poison word

  shared_poison : (k : ℕ) → ArePoison word (piece_words (piece_at (placement_of table (wants_of sharers i g table group) made).shared k))
  shared_poison zero = lent_poison (is_write_once (record_at table 0).attr) made.p0 (granted.poison 0)
  shared_poison (suc zero) = lent_poison (is_write_once (record_at table 1).attr) made.p1 (granted.poison 1)
  shared_poison (suc (suc zero)) = lent_poison (is_write_once (record_at table 2).attr) made.p2 (granted.poison 2)
  shared_poison (suc (suc (suc zero))) = lent_poison (is_write_once (record_at table 3).attr) made.p3 (granted.poison 3)
  shared_poison (suc (suc (suc (suc k)))) = no_poison word

  blocks_poison : (space : Space) → ArePoison word (block_words (new_block (placement_of table (wants_of sharers i g table group) made).blocks space))
  blocks_poison Daram = block_poison (want_at (wants_of sharers i g table group) 4) made.p4 (granted.poison 4)
  blocks_poison Saram = block_poison (want_at (wants_of sharers i g table group) 5) made.p5 (granted.poison 5)
  blocks_poison External = block_poison (want_at (wants_of sharers i g table group) 6) made.p6 (granted.poison 6)

  pub poison_made : IsPoisoned word (placement_of table (wants_of sharers i g table group) made)
  poison_made = record { own = own_poison; shared = shared_poison; blocks = blocks_poison }
