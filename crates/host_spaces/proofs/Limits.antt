-- What is asked for is within the limits of a block.
use Rattle.std.proofs.Common.{◌≡◌, ℕ, zero, suc, ◌+◌, ◌%◌, ◌<◌, ◌≤◌, ◌⊎◌, inl, inr, max, Bool, true, false, ◌||◌, if◌then◌else◌, IsTrue, List, [], ◌∷◌, length, get_or, nat_le, nat_eq, Option, Some, None, refl, sym, ap, subst, ◌∙◌, arith}
use Rattle.std.specs.List.{list_all}
use Rattle.std.specs.Int.{next_multiple_of}
use Rattle.std.proofs.lemmas.Bool.Decides.{nat_tests}
use Rattle.mem_rec.specs.declared.MemRec.{MemRec}
use Rattle.mem_rec.specs.declared.Space.{Space}
use Rattle.mem_rec.specs.Records.{is_alignment, is_record, is_table}
use Rattle.mem_rec.specs.Layout.{scratch_align, scratch_need}
use Rattle.mem_rec.proofs.Valid.{within_limits}
use Rattle.space_raw.specs.Span.{Span}
use Rattle.space_heap.specs.Maps.{AreBlocks, IsBlock}
use Rattle.relocate.specs.Places.{IsAlignment}
use Rattle.relocate.proofs.RangeTests.{both_false, both_true, clash}
use Rattle.relocate.specs.Spots.{AreSpotsFrom, IsSpot}
use Rattle.record_loans.specs.declared.block.ScratchBlock.{ScratchBlock}
use Rattle.record_loans.specs.Blocks.{block_align, block_piece, block_words}
use Rattle.scratch_group.specs.declared.group.Need.{Need}
use Rattle.scratch_group.specs.Blocks.{block_needed, serves}
use Rattle.host_map.specs.declared.placed.Owner.{Owner}
use Rattle.host_map.specs.declared.placed.Placed.{Placed}
use Rattle.host_spaces.specs.Blocks.{block_of, block_of_piece}
use Rattle.host_map.specs.Blocks.{block_range, owned, ranges, same_owner}
use Rattle.host_map.specs.Moves.{spot_of, spots_of}
use Rattle.host_spaces.specs.Spaces.{AreInOrder}
use Rattle.host_spaces.proofs.Owners.{passing}
use Rattle.host_spaces.specs.Wants.{IsWithinLimits}
use Rattle.host_spaces.proofs.Needs.{AreLimits, greater_limits, need_limits, record_power, size_bound, three}

-- ---- records

valid_at : (rs : List MemRec) (k : ℕ) (d : MemRec) → list_all is_record rs ≡ true → k < length rs → is_record (get_or rs k d) ≡ true
valid_at [] k d all lt = absurd (omega arith)
valid_at (r ∷ rs) zero d all lt = (both_true (is_record r) (list_all is_record rs) all).0
valid_at (r ∷ rs) (suc k) d all lt = valid_at rs k d (both_true (is_record r) (list_all is_record rs) all).1 (omega arith)

some_words : (r : MemRec) → is_record r ≡ true → 1 ≤ r.size
some_words r valid = let le = (three (nat_le 1 r.size) (nat_le r.size 65536) (is_alignment r.align) valid).0 in grind (arith, nat_tests)

pub record_limits : (table : List MemRec) (k : ℕ) (d : MemRec) (space : Space) (owner : Owner) (size : ℕ) → IsTrue (is_table table) → k < length table
    → size ≡ next_multiple_of (get_or table k d).size 4 → IsWithinLimits (record { space = space; owner = owner; size = size; align = (get_or table k d).align })
record_limits table k d space owner size t lt is =
    let valid = valid_at table k d (within_limits table t).valid lt in
    let most = size_bound (get_or table k d) valid in let some = some_words (get_or table k d) valid in
    record {
      some = omega arith;
      most = omega arith;
      unit = omega arith;
      aligned = (record_power (get_or table k d) valid).align;
    }

-- ---- blocks of a space

spot_there : (from : ℕ) (bs : List Placed) (k : ℕ) (d : Placed) → AreSpotsFrom from (spots_of bs) → k < length bs → IsSpot (spot_of (get_or bs k d))
spot_there from [] k d are lt = absurd (omega arith)
spot_there from (b ∷ bs) zero d are lt = are.0
spot_there from (b ∷ bs) (suc k) d are lt = spot_there (b.place + b.size) bs k d are.2 (omega arith)

block_there : (words : ℕ) (bs : List Placed) (k : ℕ) (d : Placed) → AreBlocks words (ranges bs) → k < length bs → IsBlock words (block_range (get_or bs k d))
block_there words [] k d are lt = absurd (omega arith)
block_there words (b ∷ bs) zero d are lt = are.0
block_there words (b ∷ bs) (suc k) d are lt = block_there words bs k d are.2 (omega arith)

-- an owner's only block is within the limits
piece_limits : (words : ℕ) (bs : List Placed) (owner : Owner) (align : ℕ) (s : Span) → AreInOrder words bs → owned owner bs ≡ block_of owner align s ∷ [] → AreLimits (length s.words) align
piece_limits words bs owner align s order one =
    let d = block_of owner align s in
    let some : 0 < length (owned owner bs) = (let n = ap length one in omega arith) in
    let at = (passing (λ c. same_owner owner c.owner) bs 0 d d some (ap (λ xs. get_or xs 0 d) one)).1 in
    let block = subst (λ (b : Placed). IsBlock words (block_range b)) at.2 (block_there words bs at.0 d order.apart at.1) in
    let spot = subst (λ (b : Placed). IsSpot (spot_of b)) at.2 (spot_there 0 bs at.0 d order.order at.1) in
    let most = order.size.0 in let inside = block.inside in
    record { most = omega arith; unit = block.size; aligned = spot.align }

-- what a group had there
pub record IsOld (words align : ℕ) : Type 0 where
  pub is : ((words ≡ 0) × (align ≡ 0)) ⊎ AreLimits words align

pub old_limits : (words : ℕ) (bs : List Placed) (owner : Owner) (b : Option ScratchBlock) → AreInOrder words bs
    → owned owner bs ≡ block_of_piece owner (block_align b) (block_piece b) → IsOld (length (block_words b)) (block_align b)
old_limits words bs owner None order one = record { is = inl (refl, refl) }
old_limits words bs owner (Some b) order one = record { is = inr (piece_limits words bs owner b.align b.piece order one) }

greater_old : (words align need least : ℕ) → IsOld words align → AreLimits need least → AreLimits (max words need) (max align least)
greater_old words align need least old limits = elim old.is [
  | inl none ↦ let w = none.0 in let a = none.1 in
      let x : need ≡ max words need = omega arith in let y : least ≡ max align least = omega arith in
      subst (λ n. AreLimits n (max align least)) x (subst (λ n. AreLimits need n) y limits)
  | inr some ↦ greater_limits words align need least some limits
]

needed_by : (b : Option ScratchBlock) (need align : ℕ) (t : Bool) (n : Need) → (nat_eq need 0 || serves b need align) ≡ t → Some n ≡ block_needed b need align
    → (nat_eq need 0 ≡ false) × (n ≡ record { size = max (length (block_words b)) need; align = max (block_align b) align })
needed_by b need align true n e is =
    absurd (let bad : Some n ≡ None = is ∙ ap (λ t. let o : Option Need = if t then None else Some (record { size = max (length (block_words b)) need; align = max (block_align b) align }) in o) e in cc)
needed_by b need align false n e is =
    let same : Some n ≡ Some (record { size = max (length (block_words b)) need; align = max (block_align b) align }) =
    is ∙ ap (λ t. let o : Option Need = if t then None else Some (record { size = max (length (block_words b)) need; align = max (block_align b) align }) in o) e in
    ((both_false (nat_eq need 0) (serves b need align) e).0, cc)

not_zero : (need : ℕ) → nat_eq need 0 ≡ false → 0 < need
not_zero zero e = clash (nat_eq 0 0) refl e
not_zero (suc need) e = omega arith

pub block_limits : (table : List MemRec) (space : Space) (owner : Owner) (b : Option ScratchBlock) (n : Need) → IsTrue (is_table table) → IsOld (length (block_words b)) (block_align b)
    → Some n ≡ block_needed b (scratch_need table space) (scratch_align table space)
    → IsWithinLimits (record { space = space; owner = owner; size = n.size; align = n.align })
block_limits table space owner b n t old is =
    let need = scratch_need table space in let align = scratch_align table space in
    let facts = needed_by b need align (nat_eq need 0 || serves b need align) n refl is in
    let limits = greater_old (length (block_words b)) (block_align b) need align old (need_limits table space t) in
    let size = ap (λ (x : Need). x.size) facts.1 in let some = not_zero need facts.0 in let most = limits.most in let unit = limits.unit in
    record {
      some = omega arith;
      most = omega arith;
      unit = ap (λ n. n % 4) size ∙ unit;
      aligned = subst (λ n. IsAlignment n) (sym (ap (λ (x : Need). x.align) facts.1)) limits.aligned;
    }
