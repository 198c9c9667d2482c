-- Steps of the layout of scratch records.
use Rattle.std.proofs.Common.{◌≡◌, ℕ, zero, suc, ◌-◌, ◌%◌, IsTrue, ◌+◌, ◌<◌, ◌≤◌, Bool, true, false, ◌&&◌, List, [], ◌∷◌, ◌++◌, length, get_or, drop, refl, ap, sym, ◌∙◌, add-one, arith, drop-cons, append_assoc, max}
use Rattle.std.specs.Int.{next_multiple_of}
use Rattle.std.proofs.lemmas.List.{drop_all}
use Rattle.std.proofs.lemmas.Nat.{mod_below}
use Rattle.mem_rec.specs.declared.MemRec.{MemRec}
use Rattle.mem_rec.specs.declared.Space.{Space}
use Rattle.mem_rec.specs.Layout.{scratch_records, offsets_from, end_from, align_from}
use Rattle.mem_rec.specs.Records.{is_scratch, same_space, is_table}
use Rattle.mem_rec.proofs.Valid.{IsBounded, bounded_at, within_limits}

drop_at : (rs : List MemRec) (k : ℕ) (d r : MemRec) → k < length rs → r ≡ get_or rs k d → drop k rs ≡ r ∷ drop (k + 1) rs
drop_at rs k d r h e = rw (add-one, drop-cons rs k d) (ap (λ x. x ∷ drop (suc k) rs) (sym e))

pub scratch_in : (rs : List MemRec) (k : ℕ) (d r : MemRec) (space : Space) → k < length rs → r ≡ get_or rs k d
    → (is_scratch r.attr && same_space r.space space) ≡ true
    → scratch_records (drop k rs) space ≡ r ∷ scratch_records (drop (k + 1) rs) space
scratch_in rs k d r space h e t = rw (drop_at rs k d r h e, t) refl

pub scratch_out : (rs : List MemRec) (k : ℕ) (d r : MemRec) (space : Space) → k < length rs → r ≡ get_or rs k d
    → (is_scratch r.attr && same_space r.space space) ≡ false
    → scratch_records (drop k rs) space ≡ scratch_records (drop (k + 1) rs) space
scratch_out rs k d r space h e t = rw (drop_at rs k d r h e, t) refl

-- behind the last record there is none
pub none_left : (table items : List MemRec) (k : ℕ) (space : Space) → items ≡ table → length items ≤ k → scratch_records (drop k table) space ≡ []
none_left table items k space same h = rw (drop_all k table (rw (← same) h)) refl

-- one more record is laid out
pub offsets_in : (xs : List ℕ) {ys whole : List ℕ} (end : ℕ) {o end' : ℕ} {r : MemRec} {left all : List MemRec}
    → all ≡ r ∷ left → o ≡ next_multiple_of end r.align → ys ≡ xs ++ o ∷ [] → end' ≡ o + r.size
    → xs ++ offsets_from end all ≡ whole → ys ++ offsets_from end' left ≡ whole
offsets_in xs end ea eo ey ee h =
    let step = rw ea at h in
    rw (ey, ee, eo, append_assoc) step

pub end_in : (end : ℕ) {o end' whole : ℕ} {r : MemRec} {left all : List MemRec}
    → all ≡ r ∷ left → o ≡ next_multiple_of end r.align → end' ≡ o + r.size
    → end_from end all ≡ whole → end_from end' left ≡ whole
end_in end ea eo ee h =
    let step = rw ea at h in
    rw (ee, eo) step

pub align_in : (a : ℕ) {a' whole : ℕ} {r : MemRec} {left all : List MemRec}
    → all ≡ r ∷ left → a' ≡ max a r.align → align_from a all ≡ whole → align_from a' left ≡ whole
align_in a ea e h =
    let step = rw ea at h in
    rw e step

-- to come to an alignment takes less than that many words
pub next_multiple_of_bound : (n a : ℕ) → 0 < a → next_multiple_of n a < n + a
next_multiple_of_bound n a h = omega (arith, mod_below (a - n % a) a h)

-- what is known of record k of a table, which the loop reads from its slice
pub record IsLaidOut (table : List MemRec) (k : ℕ) (d r : MemRec) : Type 0 where
  pub inside : k < length table
  pub few : length table ≤ 4
  pub is : r ≡ get_or table k d
  pub bounded : IsBounded r

pub laid_out : (table items : List MemRec) (k : ℕ) (d : MemRec) → items ≡ table → IsTrue (is_table table) → k < length items → IsLaidOut table k d (get_or items k d)
laid_out table items k d same t h =
    let limits = within_limits table t in
    let inside : k < length table = rw (← same) h in
    let is : get_or items k d ≡ get_or table k d = ap (λ rs. get_or rs k d) same in
    record {
      inside = inside;
      few = limits.few;
      is = is;
      bounded = bounded_at table k d (get_or items k d) limits.valid inside is;
    }

-- the object is no scratch record: one behind it was not the first
pub behind_object : (table : List MemRec) (k : ℕ) (d r : MemRec) (b : Bool) → IsTrue (is_table table) → r ≡ get_or table k d → (is_scratch r.attr && b) ≡ true → 0 < k
behind_object table zero d r b t is scratch =
    let none : is_scratch r.attr ≡ false = ap (λ x. is_scratch x.attr) is ∙ (within_limits table t).object d in
    let clash : (false && b) ≡ true = ap (λ s. s && b) (sym none) ∙ scratch in
    cc
behind_object table (suc k) d r b t is scratch = omega arith
