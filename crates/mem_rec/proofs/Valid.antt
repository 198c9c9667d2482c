-- What the records of a table are known to be.
use Rattle.std.proofs.Common.{◌≡◌, ℕ, ◌<◌, ◌≤◌, Bool, true, false, ◌&&◌, nat_le, IsTrue, List, [], ◌∷◌, length, get_or, Result, Ok, Err, MatchResult, is_ok, refl, ap, sym, ◌∙◌, arith, ◌⊎◌, inl, inr}
use Rattle.std.specs.List.{list_all}
use Rattle.std.proofs.lemmas.List.Folds.{list_all_at}
use Rattle.std.proofs.lemmas.Bool.{false≢true}
use Rattle.std.proofs.lemmas.Bool.Decides.{nat_tests}
use Rattle.mem_rec.specs.declared.MemRec.{MemRec}
use Rattle.mem_rec.specs.declared.Attr.{Attr}
use Rattle.mem_rec.specs.declared.Attr.TheVariants.{Scratch, Persist, WriteOnce}
use Rattle.mem_rec.specs.Records.{is_record, is_table, is_alignment, is_persistent, is_scratch}

-- a record within the limits
pub record IsBounded (r : MemRec) : Type 0 where
  pub some : 1 ≤ r.size
  pub most : r.size ≤ 65536
  pub aligned : 4 ≤ r.align
  pub coarsest : r.align ≤ 1024

either : (b : Bool) → (b ≡ true) ⊎ (b ≡ false)
either true = inl refl
either false = inr refl

align_bounds : (a : ℕ) → is_alignment a ≡ true → (4 ≤ a) × (a ≤ 1024)
align_bounds a h = (grind (arith, nat_tests), grind (arith, nat_tests))

record_bounds : (n a : ℕ) → (nat_le 1 n && nat_le n 65536 && is_alignment a) ≡ true → (1 ≤ n) × (n ≤ 65536) × (is_alignment a ≡ true)
record_bounds n a h = (grind (arith, nat_tests), grind (arith, nat_tests), grind (arith, nat_tests))

pub bounded_at : (rs : List MemRec) (k : ℕ) (d r : MemRec) → list_all is_record rs ≡ true → k < length rs → r ≡ get_or rs k d → IsBounded r
bounded_at rs k d r all h e = elim (either (is_record r)) [
  | inl valid ↦
      let b = record_bounds r.size r.align valid in
      let a = align_bounds r.align b.2 in
      record { some = b.0; most = b.1; aligned = a.0; coarsest = a.1 }
  | inr invalid ↦
      let none : list_all is_record rs ≡ false = list_all_at is_record rs k d h (ap is_record (sym e) ∙ invalid) in
      cc
]

-- the limits of a table
pub record IsWithinLimits (table : List MemRec) : Type 0 where
  pub few : length table ≤ 4
  pub valid : list_all is_record table ≡ true
  pub object : (d : MemRec) → is_scratch (get_or table 0 d).attr ≡ false

all_three : (a b c : Bool) → IsTrue (a && b && c) → (a ≡ true) × (b ≡ true) × (c ≡ true)
all_three true true true h = (refl, refl, refl)
all_three true true false h = cc
all_three true false c h = cc
all_three false b c h = cc

not_scratch : (a : Attr) → is_persistent a ≡ true → is_scratch a ≡ false
not_scratch Scratch h = cc
not_scratch Persist h = refl
not_scratch WriteOnce h = refl

pub within_limits : (table : List MemRec) → IsTrue (is_table table) → IsWithinLimits table
within_limits [] t = cc
within_limits (r ∷ rs) t =
    let parts = all_three (is_persistent r.attr) (nat_le (length (r ∷ rs)) 4) (list_all is_record (r ∷ rs)) t in
    record {
      few = grind (arith, nat_tests, parts.1);
      valid = parts.2;
      object = λ d. not_scratch r.attr parts.0;
    }

-- no records are no table
pub no_table : (rs : List MemRec) → length rs < 1 → false ≡ is_table rs
no_table [] none = refl
no_table (r ∷ rs) none = absurd (omega (arith, none))

-- nor are more than four
pub too_many : (rs : List MemRec) → 4 < length rs → false ≡ is_table rs
too_many rs many = grind (arith, nat_tests)

pub told_of_error : {T E Q : Type 0} (P : T → Type 0) (r : Result T E) → is_ok r ≡ false → MatchResult r P (λ _. Q) → Q
told_of_error P (Ok x) bad told = absurd (false≢true (sym bad))
told_of_error P (Err e) bad told = told
