-- Whom the new blocks serve.
use Rattle.std.proofs.Common.{◌≡◌, ℕ, suc, ◌<◌, ◌≤◌, ◌+◌, ◌⊎◌, ◌||◌, max, inl, inr, Bool, true, false, IsTrue, nat_eq, List, [], ◌∷◌, length, Option, Some, None, refl, ◌∙◌, ap, arith, if◌then◌else◌}
use Rattle.std.proofs.lemmas.Bool.Decides.{nat_tests}
use Rattle.space_raw.specs.Span.{Extent}
use Rattle.mem_rec.specs.declared.MemRec.{MemRec}
use Rattle.mem_rec.specs.declared.Space.{Space}
use Rattle.mem_rec.specs.declared.Attr.{Attr}
use Rattle.mem_rec.specs.declared.Attr.TheVariants.{Persist, WriteOnce}
use Rattle.mem_rec.specs.declared.Attr.TheVariants.{Scratch as ScratchRecord}
use Rattle.mem_rec.specs.Records.{is_table}
use Rattle.ialg.specs.Records.{record_at}
use Rattle.record_loans.specs.declared.pieces.Pieces.{Pieces}
use Rattle.record_loans.specs.declared.block.ScratchBlock.{ScratchBlock}
use Rattle.record_loans.specs.Pieces.{piece_at, piece_place}
use Rattle.record_loans.specs.Blocks.{block_align, block_piece, block_words}
use Rattle.scratch_group.specs.declared.group.Group.{Group}
use Rattle.scratch_group.specs.declared.group.Need.{Need}
use Rattle.scratch_group.specs.Blocks.{block_in, block_needed, serves}
use Rattle.scratch_group.specs.Words.{place_by, placed, record_place, scratch_offset, with_bases}
use Rattle.lifecycle.specs.Rooms.{NoNeed}
use Rattle.lifecycle.proofs.Needs.{scratch_inside, test_true}
use Rattle.lifecycle.proofs.Places.{some_words}
use Rattle.host_spaces.specs.Pieces.{IsNeeded}
use Rattle.host_instances.specs.Blocks.{newer}
use Rattle.host_instances.specs.Growth.{IsLarger}

test_done : (t : Bool) (x : Need) → t ≡ true → (if t then None else Some x) ≡ None
test_done t x h = rw h refl

more_serves : (b : Option ScratchBlock) (c : ScratchBlock) (need align : ℕ) → length (block_words b) ≤ length c.piece.words → block_align b ≤ c.align
    → (nat_eq need 0 || serves b need align) ≡ true → (nat_eq need 0 || serves (Some c) need align) ≡ true
more_serves None c need align long fine h = grind (arith, nat_tests)
more_serves (Some b) c need align long fine h = grind (arith, nat_tests)

-- whom the old block served
pub larger_serves : (old new : Option ScratchBlock) (need align : ℕ) → IsLarger old new → block_needed old need align ≡ None → block_needed (newer new old) need align ≡ None
larger_serves old None need align larger none = none
larger_serves old (Some c) need align larger none =
    test_done (nat_eq need 0 || serves (Some c) need align) _ (more_serves old c need align larger.0 larger.1 (test_true (nat_eq need 0 || serves old need align) _ none))

sizes_of : (t : Bool) (owner : Extent) (c : ScratchBlock) (n : Need) → IsNeeded owner (if t then None else Some n) (Some c) → (length c.piece.words ≡ n.size) × (c.align ≡ n.align)
sizes_of true owner c n is = absurd is
sizes_of false owner c n is = (is.1, is.2)

none_needed : (n : Option Need) (owner : Extent) → IsNeeded owner n None → n ≡ None
none_needed None owner is = refl
none_needed (Some n) owner is = absurd is

serves_all : (c : ScratchBlock) (need align : ℕ) → need ≤ length c.piece.words → align ≤ c.align → (nat_eq need 0 || serves (Some c) need align) ≡ true
serves_all c need align long fine = grind (arith, nat_tests)

-- for whom it was made
pub needed_serves : (owner : Extent) (old new : Option ScratchBlock) (need align : ℕ) → IsNeeded owner (block_needed old need align) new → block_needed (newer new old) need align ≡ None
needed_serves owner old None need align is = none_needed (block_needed old need align) owner is
needed_serves owner old (Some c) need align is =
    let sizes = sizes_of (nat_eq need 0 || serves old need align) owner c (record { size = max (length (block_words old)) need; align = max (block_align old) align }) is in
    test_done (nat_eq need 0 || serves (Some c) need align) _ (serves_all c need align (omega (arith, sizes.0)) (omega (arith, sizes.1)))

pub larger_needed : (owner : Extent) (old new : Option ScratchBlock) (need align : ℕ) → IsNeeded owner (block_needed old need align) new → IsLarger old new
larger_needed owner old None need align is = tt
larger_needed owner old (Some c) need align is =
    let sizes = sizes_of (nat_eq need 0 || serves old need align) owner c (record { size = max (length (block_words old)) need; align = max (block_align old) align }) is in
    (omega (arith, sizes.0), omega (arith, sizes.1))

-- ---- bases where a group gets first blocks

-- the same block, or the first one there
abbrev pub IsSameOrFirst : Group → Group → Type 0
IsSameOrFirst y y' = (space : Space) → (block_in y' space ≡ block_in y space) ⊎ (block_in y space ≡ None)

with_bases_to : (rs : List MemRec) (f h : ℕ → ℕ) → ((k : ℕ) → k < length rs → f k ≡ h k) → with_bases rs f ≡ with_bases rs h
with_bases_to [] f h same = refl
with_bases_to (r ∷ rs) f h same =
    ap (λ (n : ℕ). record r { base = n } ∷ with_bases rs (λ k. f (suc k))) (same 0 (let n : 0 < length (r ∷ rs) = omega arith in n))
    ∙ ap (λ (ts : List MemRec). record r { base = h 0 } ∷ ts) (with_bases_to rs (λ k. f (suc k)) (λ k. h (suc k)) (λ k less. same (suc k) (let n : suc k < length (r ∷ rs) = omega (arith, less) in n)))

place_same : (a : Attr) (own shared b c : ℕ) → (a ≡ ScratchRecord → c ≡ b) → place_by a own shared c ≡ place_by a own shared b
place_same ScratchRecord own shared b c same = same refl
place_same Persist own shared b c same = refl
place_same WriteOnce own shared b c same = refl

module _ (rs : List MemRec) (own shared : Pieces) (y y' : Group) (valid : IsTrue (is_table rs)) (need : NoNeed rs y) (first : IsSameOrFirst y y') where
  same_base : (k : ℕ) → k < length rs → record_place rs own shared y' k ≡ record_place rs own shared y k
  same_base k less =
      place_same (record_at rs k).attr (piece_place (piece_at own k)) (piece_place (piece_at shared k))
      (piece_place (block_piece (block_in y (record_at rs k).space)) + scratch_offset rs k) (piece_place (block_piece (block_in y' (record_at rs k).space)) + scratch_offset rs k)
      (λ scratch. elim (first (record_at rs k).space) [
        | inl same ↦ ap (λ (b : Option ScratchBlock). piece_place (block_piece b) + scratch_offset rs k) same
        | inr none ↦
            let inside = scratch_inside rs y k need scratch in
            let nothing : length (block_words (block_in y (record_at rs k).space)) ≡ 0 = rw none refl in
            let some = some_words rs k valid less in
            absurd (omega (arith, inside, nothing, some))
      ])

  -- no record lies in a block that comes first
  pub placed_first : placed rs own shared y' ≡ placed rs own shared y
  placed_first = with_bases_to rs (record_place rs own shared y') (record_place rs own shared y) same_base
