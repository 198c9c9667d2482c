-- Lists of calls of a host, with what was answered to them.
use Rattle.std.specs.Prelude.{◌≡◌, ℕ, ℤ, false, List, [], ◌∷◌, Some, None, Err}
use Rattle.std.specs.List.{flat_map}
use Rattle.ialg.specs.Views.{control_of}
use Rattle.ialg.specs.declared.refusal.Refusal.TheVariants.{Range}
use Rattle.ialg.specs.Meaning.{Meaning}
use Rattle.ialg.specs.Laws.{Laws}
use Rattle.host_moves.specs.Refinement.{told}
use Rattle.host_spec.specs.State.{State, Living}
use Rattle.host_spec.specs.Choices.{IsLawful}
use Rattle.host_spec.specs.Calls as calls
use Rattle.host_spec.specs.Calls.{Call, Leads}
use Rattle.host_spec.specs.Runs.{AllSpare, Grows, history_of_run, outputs_in, statuses_in}
use Rattle.alg_host.specs.Hosts.{HostState, HostRefines}
use Rattle.alg_host.specs.declared.request.Request.{Request}
use Rattle.alg_host.specs.declared.request.Request.TheVariants.{Create, Control, Process, Delete, Release, Step, Compact}

-- a block that nobody was given: no instance has the number, or it is empty, and then nothing was called
abbrev pub not_given : {M : Type 0} → ℕ → List ℤ → List (Call M)
not_given i [] = []
not_given i (x ∷ xs) = calls.Call.Lives i false ∷ []

-- the call that was made, with its answer
abbrev pub made : {M : Type 0} → Request M → List (Call M)
made (Create i kind g p answer) = calls.Call.Create i kind g p.items answer ∷ []
made (Control i c answer) = calls.Call.Control i (control_of c) (told answer) ∷ []
made (Process i input (Some output)) = calls.Call.Process i input.items output.items ∷ []
made (Process i input None) = not_given i input.items
made (Delete i answer) = calls.Call.Delete i answer ∷ []
made (Release g answer) = calls.Call.Release g answer ∷ []
made (Step space answer) = calls.Call.Step space answer ∷ []
made (Compact space answer) = calls.Call.Compact space answer ∷ []

abbrev pub all_made : {M : Type 0} → List (Request M) → List (Call M)
all_made requests = flat_map made requests

-- what is asked, whatever was answered
abbrev pub asked : {M : Type 0} → Request M → Request M
asked (Create i kind g p answer) = Create i kind g p (Err Range)
asked (Control i c answer) = Control i c (Err Range)
asked (Process i input output) = Process i input None
asked (Delete i answer) = Delete i (Err Range)
asked (Release g answer) = Release g (Err Range)
asked (Step space answer) = Step space false
asked (Compact space answer) = Compact space 0

-- from every state that the host refined, the calls lead to one that it refines
abbrev pub HostCallsRefine : {M : Type 0} → Laws M → List (Call M) → HostState M → HostState M → Type 0
HostCallsRefine {M} laws calls old new = (before : State M) → HostRefines laws old before
    → (after : State M) × Leads laws.meaning before calls after × HostRefines laws new after

-- each lawful instance that lived before, and wasn't deleted, gave the outputs of its history, and answered by it
abbrev pub EachGrows : {M : Type 0} → Laws M → List (Call M) → HostState M → Type 0
EachGrows {M} laws calls old = (before : State M) → HostRefines laws old before
    → (i : ℕ) (x : Living M) → before.living i ≡ Some x → IsLawful laws.meaning before.poison x → AllSpare i calls
    → Grows laws.meaning x (history_of_run i x.history calls) (outputs_in i calls) (statuses_in i calls)

-- number i is the instance x, lawful, and these calls don't delete it
pub record LivesThrough {M : Type 0} (meaning : Meaning M) (calls : List (Call M)) (before : State M) (i : ℕ) (x : Living M) : Type 0 where
  pub lives : before.living i ≡ Some x
  pub lawful : IsLawful meaning before.poison x
  pub spared : AllSpare i calls

-- two instances of one kind and the same parameters, which were given the same before these calls, and in them
pub record AreGivenTheSame {M : Type 0} (i j : ℕ) (x y : Living M) (calls others : List (Call M)) : Type 0 where
  pub kind : x.kind ≡ y.kind
  pub params : x.params ≡ y.params
  pub before : x.history ≡ y.history
  pub after : history_of_run i x.history calls ≡ history_of_run j y.history others

-- of two hosts: instances that were given the same, one in each, gave and answered the same
abbrev pub LivesAgree : {M : Type 0} → Laws M → List (Call M) → List (Call M) → HostState M → HostState M → Type 0
LivesAgree {M} laws calls others one other = (one_before other_before : State M)
    → HostRefines laws one one_before → HostRefines laws other other_before
    → (i j : ℕ) (x y : Living M) → LivesThrough laws.meaning calls one_before i x → LivesThrough laws.meaning others other_before j y
    → AreGivenTheSame i j x y calls others → (outputs_in i calls ≡ outputs_in j others) × (statuses_in i calls ≡ statuses_in j others)
