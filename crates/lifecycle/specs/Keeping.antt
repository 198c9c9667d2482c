-- What an instance keeps of its log over a call, and what it gives.
use Rattle.std.specs.Prelude.{ℤ, ◌≡◌, List, [], ◌∷◌, ◌++◌, Option}
use Rattle.mem_rec.specs.declared.MemRec.{MemRec}
use Rattle.ialg.specs.History.{Ctl, with_samples}
use Rattle.ialg.specs.Log.{Log, fed, commanded}
use Rattle.ialg.specs.Meaning.{Status}
use Rattle.ialg.specs.Laws.{Laws}
use Rattle.scratch_group.specs.declared.group.Group.{Group}
use Rattle.scratch_group.specs.Blocks.{BlocksArePoison}
use Rattle.record_loans.specs.declared.pieces.Pieces.{Pieces}
use Rattle.lifecycle.specs.declared.instance.Instance.{Instance}
use Rattle.lifecycle.specs.States.{FitsIn, IsLawful, Accepts, IdleRefines, ActiveRefines, all_outputs, status_after}

-- an active instance keeps these samples behind what it kept
abbrev pub Takes : {M : Type 0} → Laws M → Instance M → Pieces → Group → List ℤ → Instance M → Pieces → Group → Type 0
Takes laws s shared g samples s' shared' g' = (w : Option ℤ) (l : Log) → ActiveRefines laws s w shared g l
    → ActiveRefines laws s' w shared' g' (fed l samples)

-- a lawful active instance gives this out for these samples
abbrev pub GivesOut : {M : Type 0} → Laws M → Instance M → Pieces → Group → List ℤ → List ℤ → Type 0
GivesOut laws s shared g samples out = (w : Option ℤ) (l : Log) → IsLawful laws.meaning s w
    → ActiveRefines laws s w shared g l
    → all_outputs laws.meaning s (with_samples l.history samples)
    ≡ all_outputs laws.meaning s l.history ++ out

-- what an active instance gives for a sample was told by reading alone: whatever the blocks of its group hold, it keeps the sample too, and gives
-- out what was told
pub record TellsOutput {M : Type 0} (laws : Laws M) (s : Instance M) (shared : Pieces) (x told : ℤ) : Type 0 where
  pub keeps : (g : Group) → FitsIn s shared g → Takes laws s shared g (x ∷ []) s shared g
  pub output : (g : Group) → FitsIn s shared g → GivesOut laws s shared g (x ∷ []) (told ∷ [])

-- a lawful idle instance, once it is active, gives this out for these samples
abbrev pub BecomesActiveAndGives : {M : Type 0} → Laws M → Instance M → Pieces → Group → List ℤ → List ℤ → Type 0
BecomesActiveAndGives laws s shared g samples out = (w : Option ℤ) (l : Log) → IsLawful laws.meaning s w → BlocksArePoison w g
    → IdleRefines laws s w shared l
    → all_outputs laws.meaning s (with_samples l.history samples)
    ≡ all_outputs laws.meaning s l.history ++ out

-- an active instance keeps a control that it takes behind what it kept
abbrev pub Obeys : {M : Type 0} → Laws M → Instance M → Pieces → Group → Ctl → Instance M → Pieces → Group → Type 0
Obeys laws s shared g c s' shared' g' = (w : Option ℤ) (l : Log) → Accepts laws.meaning s c
    → ActiveRefines laws s w shared g l
    → ActiveRefines laws s' w shared' g' (commanded l c)

-- a lawful active instance answers this to a control that it takes
abbrev pub Answers : {M : Type 0} → Laws M → Instance M → Pieces → Group → Ctl → Status → Type 0
Answers laws s shared g c answer = (w : Option ℤ) (l : Log) → IsLawful laws.meaning s w
    → Accepts laws.meaning s c
    → ActiveRefines laws s w shared g l
    → answer ≡ status_after laws.meaning s l.history c

-- a lawful idle instance answers this table at its end
abbrev pub Ends : {M : Type 0} → Laws M → Instance M → Pieces → List MemRec → Type 0
Ends laws s shared answer = (w : Option ℤ) (l : Log) → IsLawful laws.meaning s w
    → IdleRefines laws s w shared l → answer ≡ s.table
