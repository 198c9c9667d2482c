-- What a turn and a move of one instance add to its log.
use Rattle.std.specs.Prelude.{ℤ, false, ◌≡◌, IsTrue, List, [], ◌∷◌, Option, None}
use Rattle.mem_rec.specs.declared.MemRec.{MemRec}
use Rattle.ialg.specs.declared.memory.Lent.{Lent}
use Rattle.ialg.specs.Log.{Log, called, fed, Activate, Process, Deactivate, Moved}
use Rattle.ialg.specs.Laws.{Laws}
use Rattle.ialg.specs.Records.{AllLent, LastingLent, lasting, unplaced, ScratchIsPoison}
use Rattle.ialg.specs.Loans.{lent_words}
use Rattle.test_diary.specs.Diary.{HasCalls, Keeps}

module _ {M : Type 0} (laws : Laws M) (kind : M) where
  -- an idle instance keeps that it was activated, given the samples, and deactivated, and no other call
  abbrev pub TakesTurn : List ℤ → (old new : Lent) → Type 0
  TakesTurn input old new = (p : List ℤ) (w : Option ℤ) (l : Log) → IsTrue (laws.meaning.lawful kind p w)
      → old.writable ≡ false
      → AllLent old.table.now (lent_words old)
      → ScratchIsPoison w old.table.now (lent_words old)
      → laws.idle_refines kind p old.table.now (lasting old.table.now (lent_words old)) l
      → laws.idle_refines kind p old.table.now (lasting old.table.now (lent_words new)) (called Deactivate (fed (called Activate l) input))

  -- an idle instance keeps that it was told of a move, once
  abbrev pub IsToldOnce : List MemRec → (old new : Lent) → Type 0
  IsToldOnce tab old new = (p : List ℤ) (w : Option ℤ) (l : Log) (before : List MemRec) → IsTrue (laws.meaning.lawful kind p w)
      → unplaced before ≡ unplaced tab
      → old.table.now ≡ tab
      → old.writable ≡ false
      → LastingLent tab (lent_words old)
      → laws.idle_refines kind p before (lasting tab (lent_words old)) l
      → laws.idle_refines kind p tab (lasting tab (lent_words new)) (called Moved l)

-- a diary with these calls has the three of a turn before them
abbrev pub HasTurnInDiary : (old new : Lent) → Type 0
HasTurnInDiary old new = (l : Log)
    → old.writable ≡ false
    → AllLent old.table.now (lent_words old)
    → Keeps old.table.now (lasting old.table.now (lent_words old)) l
    → HasCalls new.r1.now (Deactivate ∷ Process ∷ Activate ∷ l.calls)
