-- Where an instance's blocks stand in the memory map, its records fit.
use Rattle.std.proofs.Common.{◌≡◌, ℕ, zero, suc, ◌+◌, ◌<◌, ◌≤◌, ◌⊎◌, ◌||◌, ◌==◌, inl, inr, Bool, true, false, List, [], ◌∷◌, length, Option, Some, None, refl, sym, ◌∙◌, subst, arith, length-take}
use Rattle.std.specs.List.{list_any}
use Rattle.std.proofs.lemmas.Bool.{true≢false, eqb-true}
use Rattle.space_raw.specs.Span.{Extent, Span}
use Rattle.mem_rec.specs.declared.MemRec.{MemRec}
use Rattle.mem_rec.specs.declared.Space.{Space}
use Rattle.mem_rec.specs.declared.Space.TheVariants.{Daram, Saram, External}
use Rattle.mem_rec.specs.declared.Attr.{Attr}
use Rattle.mem_rec.specs.declared.Attr.TheVariants.{Scratch, Persist, WriteOnce}
use Rattle.mem_rec.specs.Records.{is_persistent, same_space}
use Rattle.mem_rec.proofs.Valid.{within_limits}
use Rattle.ialg.specs.Records.{record_at, idle_size}
use Rattle.relocate.specs.Places.{meets, placed_size}
use Rattle.space_heap.specs.Maps.{AreBlocks}
use Rattle.relocate.proofs.RangeTests.{meet_if, both_true}
use Rattle.record_loans.specs.declared.pieces.Pieces.{Pieces}
use Rattle.record_loans.specs.Pieces.{piece_at, piece_words, IsInSpace}
use Rattle.record_loans.specs.Blocks.{block_piece, block_align}
use Rattle.scratch_group.specs.declared.group.Group.{Group}
use Rattle.scratch_group.specs.Blocks.{block_in}
use Rattle.scratch_group.specs.Words.{placed, HasPieces, idle_record_words, lasting_words_by}
use Rattle.lifecycle.specs.Rooms.{Separate, AreSeparate, piece_of_record}
use Rattle.lifecycle.specs.States.{Fits}
use Rattle.lifecycle.proofs.Places.{there_is_room}
use Rattle.scratch_group.proofs.Ends.{blank_at}
use Rattle.host_map.specs.declared.placed.Owner.{Owner}
use Rattle.host_map.specs.declared.placed.Owner.TheVariants.{Record, Scratch as GroupScratch}
use Rattle.host_map.specs.declared.placed.Placed.{Placed}
use Rattle.host_spaces.specs.Blocks.{block_of, block_of_piece}
use Rattle.host_map.specs.Blocks.{block_range, owned, ranges, same_owner}
use Rattle.host_spaces.specs.declared.spaces.Spaces.{Spaces}
use Rattle.host_map.specs.MemoryMap.{blocks_in}
use Rattle.host_spaces.specs.MemoryMap.{map_of, space_in}
use Rattle.host_spaces.specs.Pieces.{HasBlocks, IsPieceOf, is_write_once}
use Rattle.host_moves.specs.Standing.{IsPieceThere, IsOf, AreOrdered}

-- ---- two blocks of a space do not meet

pub either : (b : Bool) → (b ≡ true) ⊎ (b ≡ false)
either true = inl refl
either false = inr refl

-- one block ends before the other begins
abbrev pub Disjoint : Placed → Placed → Type 0
Disjoint b c = (b.place + b.size ≤ c.place) ⊎ (c.place + c.size ≤ b.place)

pub compare : (a b : ℕ) → (a < b) ⊎ (b ≤ a)
compare a zero = inr (omega arith)
compare zero (suc b) = inl (omega arith)
compare (suc a) (suc b) = elim (compare a b) [ inl h ↦ inl (omega (arith, h)) | inr h ↦ inr (omega (arith, h)) ]

apart_ranges : (b c : Placed) → meets (block_range b) (block_range c) ≡ false → Disjoint b c
apart_ranges b c apart =
    elim (compare b.place (c.place + c.size)) [
      | inr h ↦ inr h
      | inl h ↦ elim (compare c.place (b.place + b.size)) [
        | inr k ↦ inl k
        | inl k ↦ absurd (true≢false (sym (meet_if (block_range b) (block_range c) h k) ∙ apart))
      ]
    ]

swapped : (b c : Placed) → Disjoint b c → Disjoint c b
swapped b c (inl h) = inr h
swapped b c (inr h) = inl h

-- the first block beside one behind it
head_apart : (b c : Placed) (bs : List Placed) (o : Owner) → list_any (meets (block_range b)) (ranges bs) ≡ false → owned o bs ≡ c ∷ [] → Disjoint b c
head_apart b c [] o none is = absurd (no_head is)
  where
    no_head : [] ≡ c ∷ [] → ⊥
    no_head e = cc
head_apart b c (d ∷ ds) o none is =
    elim (either (same_owner o d.owner)) [
      | inl mine ↦ first_is mine
      | inr other ↦ head_apart b c ds o (rest_none (meets (block_range b) (block_range d)) (list_any (meets (block_range b)) (ranges ds)) none) (rw other at is)
    ]
  where
    rest_none : (s t : Bool) → (s || t) ≡ false → t ≡ false
    rest_none true t e = absurd (true≢false e)
    rest_none false t e = e

    first_none : (s t : Bool) → (s || t) ≡ false → s ≡ false
    first_none true t e = absurd (true≢false e)
    first_none false t e = refl

    first_is : same_owner o d.owner ≡ true → Disjoint b c
    first_is mine =
        let both : d ∷ owned o ds ≡ c ∷ [] = rw mine at is in
        let same : d ≡ c = cc in
        subst (λ (x : Placed). Disjoint b x) same (apart_ranges b d (first_none (meets (block_range b) (block_range d)) (list_any (meets (block_range b)) (ranges ds)) none))

pub two_apart : (words : ℕ) (bs : List Placed) (o q : Owner) (b c : Placed) → AreBlocks words (ranges bs) → ((d : Placed) → same_owner o d.owner ≡ true → same_owner q d.owner ≡ true → ⊥)
    → owned o bs ≡ b ∷ [] → owned q bs ≡ c ∷ [] → Disjoint b c
two_apart words [] o q b c are two ob qc = absurd (no_head ob)
  where
    no_head : [] ≡ b ∷ [] → ⊥
    no_head e = cc
two_apart words (d ∷ ds) o q b c are two ob qc =
    elim (either (same_owner o d.owner)) [
      | inl mine ↦ elim (either (same_owner q d.owner)) [
        | inl its ↦ absurd (two d mine its)
        | inr other ↦
            let both : d ∷ owned o ds ≡ b ∷ [] = rw mine at ob in
            let same : d ≡ b = cc in
            subst (λ (x : Placed). Disjoint x c) same (head_apart d c ds q are.1 (rw other at qc))
      ]
      | inr not_mine ↦ elim (either (same_owner q d.owner)) [
        | inl its ↦
            let both : d ∷ owned q ds ≡ c ∷ [] = rw its at qc in
            let same : d ≡ c = cc in
            swapped c b (subst (λ (x : Placed). Disjoint x b) same (head_apart d b ds o are.1 (rw not_mine at ob)))
        | inr other ↦ two_apart words ds o q b c are.2 two (rw not_mine at ob) (rw other at qc)
      ]
    ]

-- ---- the records of an instance, and its group's block

two_records : (h i j k : ℕ) → j < k → (d : Owner) → same_owner (Record h j) d ≡ true → same_owner (Record i k) d ≡ true → ⊥
two_records h i j k less (Record a b) mine its =
    let at_j = eqb-true j b (both_true (h == a) (j == b) mine).1 in
    let at_k = eqb-true k b (both_true (i == a) (k == b) its).1 in
    omega (arith, less, at_j, at_k)
two_records h i j k less (GroupScratch g) mine its = true≢false (sym mine)

record_and_block : (i k g : ℕ) (d : Owner) → same_owner (Record i k) d ≡ true → same_owner (GroupScratch g) d ≡ true → ⊥
record_and_block i k g (Record a b) mine its = true≢false (sym its)
record_and_block i k g (GroupScratch h) mine its = true≢false (sym mine)

separate_by : (words : ℕ) (bs : List Placed) (o q : Owner) (al bl : ℕ) (p t : Option Span) → AreBlocks words (ranges bs)
    → ((d : Placed) → same_owner o d.owner ≡ true → same_owner q d.owner ≡ true → ⊥)
    → owned o bs ≡ block_of_piece o al p → owned q bs ≡ block_of_piece q bl t → AreSeparate p t
separate_by words bs o q al bl None t are two ob qc = tt
separate_by words bs o q al bl (Some s) None are two ob qc = tt
separate_by words bs o q al bl (Some s) (Some t) are two ob qc =
    inr (inr (two_apart words bs o q (block_of o al s) (block_of q bl t) are two ob qc))

pub space_itself : (s : Space) → same_space s s ≡ true
space_itself Daram = refl
space_itself Saram = refl
space_itself External = refl

has_by : (a : Attr) (n : ℕ) (owner : Extent) (o s : Option Span) → IsPieceOf owner (placed_size n) (is_persistent a) o → IsPieceOf owner (placed_size n) (is_write_once a) s
    → length (lasting_words_by a n (piece_words o) (piece_words s)) ≡ idle_size a n
has_by Scratch n owner o s po ps = refl
has_by Persist n owner None s po ps = absurd (true≢false po)
has_by Persist n owner (Some p) s po ps = omega (arith, po.2, length-take n p.words)
has_by WriteOnce n owner o None po ps = absurd (true≢false ps)
has_by WriteOnce n owner o (Some p) po ps = omega (arith, ps.2, length-take n p.words)

in_space : (owner : Extent) (size : ℕ) (wanted : Bool) (p : Option Span) → owner.size ≤ 65536 → IsPieceOf owner size wanted p → IsInSpace p
in_space owner size wanted None small is = tt
in_space owner size wanted (Some p) small is = rw is.1 small

block_in_space : (owner : Extent) (p : Option Span) → owner.size ≤ 65536 → IsOf owner p → IsInSpace p
block_in_space owner None small is = tt
block_in_space owner (Some p) small is = rw is small

module _ (spaces : Spaces) (i : ℕ) (at : ℕ → ℕ) (g : ℕ) (rs : List MemRec) (own shared : Pieces) (y : Group) (ordered : AreOrdered spaces) (owner : IsPieceThere spaces i at rs own shared y)
    (blocks : HasBlocks (map_of spaces) g y) (regions : (space : Space) → IsOf (space_in spaces space).region (block_piece (block_in y space))) where
  has_piece : (k : ℕ) → length (idle_record_words rs own shared k) ≡ idle_size (record_at rs k).attr (record_at rs k).size
  has_piece k = has_by (record_at rs k).attr (record_at rs k).size (space_in spaces (record_at rs k).space).region (piece_at own k) (piece_at shared k) (owner.pieces.persistent k) (owner.pieces.write_once k)

  has_pieces : HasPieces rs own shared
  has_pieces zero = has_piece 0
  has_pieces (suc zero) = has_piece 1
  has_pieces (suc (suc zero)) = has_piece 2
  has_pieces (suc (suc (suc zero))) = has_piece 3
  has_pieces (suc (suc (suc (suc k)))) =
      let few = (within_limits rs owner.valid).few in
      let blank = blank_at rs (suc (suc (suc (suc k)))) (omega (arith, few)) in
      rw blank refl

  small : (space : Space) → (space_in spaces space).region.size ≤ 65536
  small space = let size = (ordered space).size.0 in omega (arith, size)

  of_record : (k : ℕ) → owned (Record (at k) k) (blocks_in (map_of spaces) (record_at rs k).space) ≡ block_of_piece (Record (at k) k) (record_at rs k).align (piece_of_record rs own shared k)
  of_record k = rw (space_itself (record_at rs k).space) at (owner.records k (record_at rs k).space)

  separate : Separate rs own shared y
  separate = record {
    pieces = λ j k less below same.
        separate_by (space_in spaces (record_at rs k).space).region.size (blocks_in (map_of spaces) (record_at rs k).space) (Record (at j) j) (Record (at k) k) (record_at rs j).align (record_at rs k).align
        (piece_of_record rs own shared j) (piece_of_record rs own shared k) (ordered (record_at rs k).space).apart
        (λ d mine its. two_records (at j) (at k) j k less d.owner mine its)
        (subst (λ (s : Space). owned (Record (at j) j) (blocks_in (map_of spaces) s) ≡ block_of_piece (Record (at j) j) (record_at rs j).align (piece_of_record rs own shared j)) same (of_record j))
        (of_record k);
    block = λ k below.
        separate_by (space_in spaces (record_at rs k).space).region.size (blocks_in (map_of spaces) (record_at rs k).space) (Record (at k) k) (GroupScratch g) (record_at rs k).align
        (block_align (block_in y (record_at rs k).space)) (piece_of_record rs own shared k) (block_piece (block_in y (record_at rs k).space)) (ordered (record_at rs k).space).apart
        (λ d mine its. record_and_block (at k) k g d.owner mine its) (of_record k) (blocks (record_at rs k).space);
  }

  -- there is room for the instance's records at their places
  pub room_at_owner : Fits (placed rs own shared y) own shared y
  room_at_owner =
      there_is_room rs own shared y owner.valid owner.need has_pieces separate
      (record {
        own_space = λ k. in_space _ _ _ (piece_at own k) (small (record_at rs k).space) (owner.pieces.persistent k);
        shared_space = λ k. in_space _ _ _ (piece_at shared k) (small (record_at rs k).space) (owner.pieces.write_once k);
        block_space = λ space. block_in_space _ (block_piece (block_in y space)) (small space) (regions space);
      })
