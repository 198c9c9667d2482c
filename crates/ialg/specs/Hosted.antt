-- What the calls of a filter do with the records that are lent: they find their words by the bases in the object, whose kind word is
-- `kind`. Private clauses alone speak of it, but of `LeavesLasting`.
use Rattle.std.specs.Prelude.{ℤ, ◌≡◌, IsTrue, List, ◌∷◌, ◌++◌, length, Some}
use Rattle.mem_rec.specs.declared.Space.TheVariants.{Daram, Saram}
use Rattle.ialg.specs.declared.filter.FilterMemory.{FilterMemory}
use Rattle.ialg.specs.declared.memory.Lent.{Lent}
use Rattle.ialg.specs.History.{History, Control, Set, Reset, Get, with_samples, outputs_by}
use Rattle.ialg.specs.Records.{AllLent, lasting}
use Rattle.ialg.specs.Loans.{lent_words}
use Rattle.ialg.specs.Objects.{NamedAt}
use Rattle.ialg.specs.Filters.{FilterMeaning, KeptRelation, RunningRelation, filter_records, IsActive}

-- with running words of the length that was asked for an active instance keeps what the kept words that are lent keep
abbrev pub RestoresFromLent : ℤ → FilterMeaning → KeptRelation → RunningRelation → Lent → (old new : List ℤ) → Type 0
RestoresFromLent kind filter rests runs mem old new = (p : List ℤ) (h : History) (m : FilterMemory)
    → NamedAt mem Saram 1 kind (filter_records m)
    → filter.memory p ≡ Some m → length old ≡ m.running → rests p h mem.r1.now
    → runs p h mem.r1.now new

module _ (kind : ℤ) (runs : RunningRelation) where
  -- kept words of an idle instance keep what those of the active one kept with the running words that are lent
  abbrev pub SavesFromLent : KeptRelation → Lent → (old new : List ℤ) → Type 0
  SavesFromLent rests mem old new = (p : List ℤ) (h : History) (m : FilterMemory) → NamedAt mem Daram 2 kind (filter_records m)
      → runs p h old mem.r2.now → rests p h new

  -- with the kept words that are lent the samples are kept behind what was kept
  abbrev pub RunsFromLent : Lent → (old input new : List ℤ) → Type 0
  RunsFromLent mem old input new = (p : List ℤ) (h : History) (m : FilterMemory) → NamedAt mem Saram 1 kind (filter_records m)
      → runs p h mem.r1.now old → runs p (with_samples h input) mem.r1.now new

  -- with the kept words that are lent what the samples give is given out
  abbrev pub GivesFromLent : FilterMeaning → Lent → (running input out : List ℤ) → Type 0
  GivesFromLent filter mem running input out = (p : List ℤ) (h : History) (m : FilterMemory) → NamedAt mem Saram 1 kind (filter_records m)
      → runs p h mem.r1.now running
      → outputs_by (filter.gives p) (with_samples h input) ≡ outputs_by (filter.gives p) h ++ out

module _ (kind : ℤ) (filter : FilterMeaning) (runs : RunningRelation) where
  -- the words of the records that last stay
  abbrev pub LeavesLasting : (old new : Lent) → Type 0
  LeavesLasting old new = (p : List ℤ) (h : History) → AllLent old.table.now (lent_words old)
      → IsActive kind (filter.memory p) (runs p h) old.table.now (lent_words old)
      → lasting old.table.now (lent_words new) ≡ lasting old.table.now (lent_words old)

  -- an active instance keeps words that are accepted behind what it kept
  abbrev pub SetsInLent : List ℤ → (old new : Lent) → Type 0
  SetsInLent words old new = (p : List ℤ) (h : History) → AllLent old.table.now (lent_words old)
      → IsTrue (filter.accepts p (Set words))
      → IsActive kind (filter.memory p) (runs p h) old.table.now (lent_words old)
      → IsActive kind (filter.memory p) (runs p (Control (Set words) ∷ h)) old.table.now (lent_words new)

  -- it keeps a reset so
  abbrev pub ResetsInLent : (old new : Lent) → Type 0
  ResetsInLent old new = (p : List ℤ) (h : History) → AllLent old.table.now (lent_words old)
      → IsActive kind (filter.memory p) (runs p h) old.table.now (lent_words old)
      → IsActive kind (filter.memory p) (runs p (Control Reset ∷ h)) old.table.now (lent_words new)

  -- what an active instance answers to `get` is the answer of the meaning
  abbrev pub AnswersFromLent : Lent → List ℤ → Type 0
  AnswersFromLent mem answer = (p : List ℤ) (h : History) → AllLent mem.table.now (lent_words mem)
      → IsActive kind (filter.memory p) (runs p h) mem.table.now (lent_words mem)
      → answer ≡ filter.got p h

  -- it keeps a `get` behind what it kept
  abbrev pub GetsFromLent : Lent → Type 0
  GetsFromLent mem = (p : List ℤ) (h : History) → AllLent mem.table.now (lent_words mem)
      → IsActive kind (filter.memory p) (runs p h) mem.table.now (lent_words mem)
      → IsActive kind (filter.memory p) (runs p (Control Get ∷ h)) mem.table.now (lent_words mem)
