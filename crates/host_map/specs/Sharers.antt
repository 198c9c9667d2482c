-- With which living instance a new one shares the block of a write-once record.
use Rattle.std.specs.Prelude.{ℕ, ℤ, Bool, true, false, ◌&&◌, ◌==◌, List, Option, Some, None, find}
use Rattle.std.specs.List.{range_with_len}
use Rattle.std.specs.Cmp.Lexicographic.{pointwise}
use Rattle.std.specs.Ordering.{int_eq}
use Rattle.mem_rec.specs.declared.MemRec.{MemRec}
use Rattle.mem_rec.specs.declared.Attr.{Attr}
use Rattle.mem_rec.specs.declared.Attr.TheVariants.{WriteOnce}
use Rattle.mem_rec.specs.Records.{same_space}
use Rattle.ialg.specs.Records.{record_at, unplaced}
use Rattle.mem_rec.specs.declared.TheConstants.{INSTANCES}

abbrev pub is_once : Attr → Bool
is_once WriteOnce = true
is_once _ = false

-- two write-once records of one size, alignment and space
abbrev pub is_same_once : MemRec → MemRec → Bool
is_same_once r s = is_once r.attr && is_once s.attr && r.size == s.size && r.align == s.align && same_space r.space s.space

-- ---- what contracts of code say

-- an instance as it was asked for: its kind, its parameters, and the memory that the kind asks for, without bases
pub record Asked (M : Type 0) : Type 0 where
  pub kind : M
  pub params : List ℤ
  pub table : List MemRec

-- whether an instance shares record k: it is of the same kind, with equal parameters, and its record k is write-once and equal
abbrev pub is_sharer : {M : Type 0} → (M → M → Bool) → Asked M → ℕ → Option (Asked M) → Bool
is_sharer same x k None = false
is_sharer same x k (Some y) = same x.kind y.kind && pointwise int_eq x.params y.params && is_same_once (record_at x.table k) (record_at y.table k)

-- the least number of an instance that shares record k
abbrev pub sharer_of : {M : Type 0} → (M → M → Bool) → (ℕ → Option (Asked M)) → Asked M → ℕ → Option ℕ
sharer_of same others x k = find (λ j. is_sharer same x k (others j)) (range_with_len 0 INSTANCES)

-- what is asked for by this kind, these parameters and this table
abbrev pub asked : {M : Type 0} → M → List ℤ → List MemRec → Asked M
asked kind params table = record { kind = kind; params = params; table = unplaced table }
