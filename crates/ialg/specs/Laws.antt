-- What an algorithm type means, and which words refine a log of an instance.
use Rattle.std.specs.Prelude.{ℕ, ℤ, List}
use Rattle.mem_rec.specs.declared.MemRec.{MemRec}
use Rattle.ialg.specs.Log.{Log}
use Rattle.ialg.specs.Meaning.{Meaning}

-- whether words refine a log, by the kind, its parameters and its table
abbrev pub Relation : Type 0 → Type 1
Relation M = M → List ℤ → List MemRec → List (List ℤ) → Log → Type 0

-- what the kinds mean without code and memory; what is told of their records; and what refines a log: of an idle instance the words of the
-- records that last, of an active one the words of all its records
pub record Laws (M : Type 0) : Type 1 where
  pub meaning : Meaning M
  -- the most records that a table has
  pub bound : M → ℕ
  -- the words of write-once record k
  pub fill : M → List ℤ → ℕ → List ℤ
  pub idle_refines : Relation M
  pub active_refines : Relation M
