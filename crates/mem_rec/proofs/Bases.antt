-- What a table keeps where the base of a record changes.
use Rattle.std.proofs.Common.{◌≡◌, ℕ, zero, suc, ◌<◌, ◌&&◌, IsTrue, List, [], ◌∷◌, length, slice_set, get_or, take, drop, refl, ap, arith}
use Rattle.std.specs.List.{list_all, refill}
use Rattle.std.proofs.Math.Seq.{take-length}
use Rattle.std.proofs.lemmas.List.{take-append-le}
use Rattle.mem_rec.specs.declared.MemRec.{MemRec}
use Rattle.mem_rec.specs.Records.{is_record, is_table, first_is_persistent, with_base}

take_all : (xs : List MemRec) (n : ℕ) → length xs ≡ n → take n xs ≡ xs
take_all xs n e = rw (← e) (take-length xs)

pub length-with_base : (rs : List MemRec) (k base : ℕ) → length (with_base rs k base) ≡ length rs
length-with_base [] k base = refl
length-with_base (r ∷ rs) zero base = refl
length-with_base (r ∷ rs) (suc k) base = ap suc (length-with_base rs k base)

pub list_all-with_base : (rs : List MemRec) (k base : ℕ) → list_all is_record (with_base rs k base) ≡ list_all is_record rs
list_all-with_base [] k base = refl
list_all-with_base (r ∷ rs) zero base = refl
list_all-with_base (r ∷ rs) (suc k) base = ap (λ b. is_record r && b) (list_all-with_base rs k base)

begins-with_base : (rs : List MemRec) (k base : ℕ) → first_is_persistent (with_base rs k base) ≡ first_is_persistent rs
begins-with_base [] k base = refl
begins-with_base (r ∷ rs) zero base = refl
begins-with_base (r ∷ rs) (suc k) base = refl

pub is_table-with_base : (rs : List MemRec) (k base : ℕ) → is_table (with_base rs k base) ≡ is_table rs
is_table-with_base rs k base = simp (begins-with_base, length-with_base, list_all-with_base)

pub slice_set_is_with_base : (rs : List MemRec) (k base : ℕ) (d : MemRec) → k < length rs → slice_set rs k (record (get_or rs k d) { base = base }) ≡ with_base rs k base
slice_set_is_with_base [] k base d h = absurd (omega arith)
slice_set_is_with_base (r ∷ rs) zero base d h = refl
slice_set_is_with_base (r ∷ rs) (suc k) base d h = ap (λ xs. r ∷ xs) (slice_set_is_with_base rs k base d (omega arith))

-- a table after record k was written through its slice
pub refill_is_with_base : (rs ms ss : List MemRec) (k base : ℕ) (d : MemRec) → ms ≡ rs → ss ≡ rs → k < length rs → refill (length rs) rs (slice_set ms k (record (get_or ss k d) { base = base })) ≡ with_base rs k base
refill_is_with_base rs ms ss k base d e f h =
    let n = length-with_base rs k base in
    let all : refill (length rs) rs (with_base rs k base) ≡ with_base rs k base = simp (take-append-le (length rs) (with_base rs k base) (drop (length (with_base rs k base)) rs) (omega arith)) (take_all (with_base rs k base) (length rs) n) in
    rw (e, f, slice_set_is_with_base rs k base d h) all

pub stays_table : (rs ts : List MemRec) (k base : ℕ) → ts ≡ with_base rs k base → IsTrue (is_table rs) → IsTrue (is_table ts)
stays_table rs ts k base e h = rw (e, is_table-with_base rs k base) h
