-- The records of an algorithm's memory, and what makes a list of them a table.
use Rattle.std.specs.Prelude.{ℕ, zero, suc, Bool, true, false, ◌&&◌, ◌==◌, ◌^◌, nat_le, List, [], ◌∷◌, length}
use Rattle.std.specs.List.{list_all, list_any}
use Rattle.mem_rec.specs.declared.TheConstants.{RECORD_WORDS, TABLE_RECORDS}
use Rattle.mem_rec.specs.declared.MemRec.{MemRec}
use Rattle.mem_rec.specs.declared.Space.{Space}
use Rattle.mem_rec.specs.declared.Space.TheVariants.{Daram, Saram, External}
use Rattle.mem_rec.specs.declared.Attr.{Attr}
use Rattle.mem_rec.specs.declared.Attr.TheVariants.{Scratch, Persist}

abbrev pub same_space : Space → Space → Bool
same_space Daram Daram = true
same_space Saram Saram = true
same_space External External = true
same_space _ _ = false

abbrev pub is_scratch : Attr → Bool
is_scratch Scratch = true
is_scratch _ = false

abbrev pub is_persistent : Attr → Bool
is_persistent Persist = true
is_persistent _ = false

-- a power of two, 4 to 1,024
abbrev pub is_alignment : ℕ → Bool
is_alignment a = list_any (λ k. 2 ^ k == a) (2 ∷ 3 ∷ 4 ∷ 5 ∷ 6 ∷ 7 ∷ 8 ∷ 9 ∷ 10 ∷ [])

-- a record within the limits
abbrev pub is_record : MemRec → Bool
is_record r = nat_le 1 r.size && nat_le r.size RECORD_WORDS && is_alignment r.align

abbrev pub first_is_persistent : List MemRec → Bool
first_is_persistent [] = false
first_is_persistent (r ∷ rs) = is_persistent r.attr

-- 1 to 4 records, the first of them persistent
abbrev pub is_table : List MemRec → Bool
is_table rs = first_is_persistent rs && nat_le (length rs) TABLE_RECORDS && list_all is_record rs

-- the table with record k at `base`
abbrev pub with_base : List MemRec → ℕ → ℕ → List MemRec
with_base [] k base = []
with_base (r ∷ rs) zero base = record r { base = base } ∷ rs
with_base (r ∷ rs) (suc k) base = r ∷ with_base rs k base
