-- The calls of a host: what each may answer, and which state may come after it. A kind's answers are free where it isn't lawful.
use Rattle.std.specs.Prelude.{ℕ, ℤ, ◌≡◌, Bool, List, [], ◌∷◌, Option, Some, None, is_some, Result}
use Rattle.std.specs.Result.{result_err}
use Rattle.mem_rec.specs.declared.MemRec.{MemRec}
use Rattle.mem_rec.specs.declared.Space.{Space}
use Rattle.ialg.specs.declared.refusal.Refusal.{Refusal}
use Rattle.ialg.specs.History.{Ctl}
use Rattle.ialg.specs.Meaning.{Meaning, Status}
use Rattle.host_map.specs.declared.placed.Placed.{Placed}
use Rattle.host_map.specs.MemoryMap.{blocks_in}
use Rattle.host_map.specs.Activity.{Activity}
use Rattle.host_spec.specs.State.{Living, State}
use Rattle.host_spec.specs.Choices.{MayAsk, MayAnswer, MayGive}
use Rattle.host_spec.specs.Steps as steps

-- a call, and what was answered to it
pub data Call (M : Type 0) : Type 0 where
  Create : (i : ℕ) (kind : M) (g : ℕ) (p : List ℤ) (answer : Result (Unit {0}) Refusal) → Call M
  Control : (i : ℕ) (c : Ctl) (answer : Result Status Refusal) → Call M
  Process : (i : ℕ) (block out : List ℤ) → Call M
  Delete : (i : ℕ) (answer : Result (Unit {0}) Refusal) → Call M
  Release : (g : ℕ) (answer : Result Bool Refusal) → Call M
  Step : (space : Space) (answer : Bool) → Call M
  Compact : (space : Space) (answer : ℕ) → Call M
  Stat : (g : ℕ) (answer : Result Activity Refusal) → Call M
  Map : (space : Space) (answer : List Placed) → Call M
  Lives : (i : ℕ) (answer : Bool) → Call M
  Copied : (answer : ℕ) → Call M

module _ {M : Type 0} (kinds : Meaning M) (before : State M) where
  -- the kind asks for some memory, and the instance is created in it or refused
  pub record Creates (i : ℕ) (kind : M) (g : ℕ) (p : List ℤ) (answer : Result (Unit {0}) Refusal) (after : State M) : Type 0 where
    pub table : Option (List MemRec)
    pub asked : MayAsk kinds before.poison kind p table
    pub outcome : (answer, after) ≡ steps.create kinds before i kind g p table

  -- the instance takes the control or doesn't, and answers
  pub record Controls (i : ℕ) (c : Ctl) (answer : Result Status Refusal) (after : State M) : Type 0 where
    pub taken : Bool
    pub status : Status
    pub answers : (x : Living M) → before.living i ≡ Some x → MayAnswer kinds before.poison x c taken status
    pub outcome : (answer, after) ≡ steps.control before i c taken status

  -- the instance gives `out` for the block
  pub record Processes (i : ℕ) (block out : List ℤ) (after : State M) : Type 0 where
    pub instance : Living M
    pub there : before.living i ≡ Some instance
    pub gives : MayGive kinds before.poison instance block out
    pub outcome : after ≡ steps.processed before i block

  -- the call answers so, and leads from one state to the other
  abbrev pub Does : Call M → State M → Type 0
  Does (Create i kind g p answer) after = Creates i kind g p answer after
  Does (Control i c answer) after = Controls i c answer after
  Does (Process i block out) after = Processes i block out after
  Does (Delete i answer) after = (answer, after) ≡ steps.delete kinds before i
  Does (Release g answer) after = (answer, after) ≡ steps.release before g
  Does (Step space answer) after = (answer, after) ≡ steps.step before space
  Does (Compact space answer) after = (answer, after) ≡ steps.compact before space
  Does (Stat g answer) after = (answer, after) ≡ steps.stat before g
  Does (Map space answer) after = (answer ≡ blocks_in before.map space) × (after ≡ before)
  Does (Lives i answer) after = (answer ≡ is_some (before.living i)) × (after ≡ before)
  Does (Copied answer) after = (answer ≡ before.copied) × (after ≡ before)

-- the calls, one after the other, lead from one state to another
module _ {M : Type 0} (kinds : Meaning M) where
  abbrev pub Leads : State M → List (Call M) → State M → Type 0
  Leads before [] after = after ≡ before
  Leads before (call ∷ calls) after = (between : State M) × Does kinds before call between × Leads between calls after

-- why a call was refused, if it was
abbrev pub refusal_of : {M : Type 0} → Call M → Option Refusal
refusal_of (Create i kind g p answer) = result_err answer
refusal_of (Control i c answer) = result_err answer
refusal_of (Delete i answer) = result_err answer
refusal_of (Release g answer) = result_err answer
refusal_of (Stat g answer) = result_err answer
refusal_of _ = None

-- the number of the instance that a call is about, if it is about one
abbrev pub subject_of : {M : Type 0} → Call M → Option ℕ
subject_of (Create i kind g p answer) = Some i
subject_of (Control i c answer) = Some i
subject_of (Process i block out) = Some i
subject_of (Delete i answer) = Some i
subject_of _ = None
