-- What is answered where the kinds are lawful: then nothing is free, and the machine is a function.
use Rattle.std.specs.Prelude.{ℤ, Bool, false, IsTrue, List, [], ◌∷◌, Option, Some, None, IfSome, is_some}
use Rattle.ialg.specs.History.{Ctl, block_output}
use Rattle.ialg.specs.Meaning.{Meaning, Status, Done, status_of}
use Rattle.host_map.specs.MemoryMap.{blocks_in}
use Rattle.host_spec.specs.State.{Living, State}
use Rattle.host_spec.specs.Choices.{IsLawful}
use Rattle.host_spec.specs.Steps as steps
use Rattle.host_spec.specs.Calls.{Call}
use Rattle.host_spec.specs.Calls.Call.{Create, Control, Process, Delete, Release, Step, Compact, Stat, Map, Lives, Copied}

module _ {M : Type 0} (kinds : Meaning M) where
  abbrev pub accepted : Option (Living M) → Ctl → Bool
  accepted None c = false
  accepted (Some x) c = kinds.accepts x.kind x.params c

  abbrev pub status_at : Option (Living M) → Ctl → Status
  status_at None c = Done
  status_at (Some x) c = status_of kinds x.kind x.params x.history c

  abbrev pub output_at : Option (Living M) → List ℤ → List ℤ
  output_at None block = []
  output_at (Some x) block = block_output (kinds.gives x.kind x.params) x.history block

  -- the call with the machine's answer in place of its own, and the state after it
  abbrev pub answered : State M → Call M → Call M × State M
  answered before (Create i kind g p _) = let o = steps.create kinds before i kind g p (kinds.table kind p) in (Create i kind g p o.0, o.1)
  answered before (Control i c _) =
      let x = before.living i in let o = steps.control before i c (accepted x c) (status_at x c) in (Control i c o.0, o.1)
  answered before (Process i block _) = (Process i block (output_at (before.living i) block), steps.processed before i block)
  answered before (Delete i _) = let o = steps.delete kinds before i in (Delete i o.0, o.1)
  answered before (Release g _) = let o = steps.release before g in (Release g o.0, o.1)
  answered before (Step space _) = let o = steps.step before space in (Step space o.0, o.1)
  answered before (Compact space _) = let o = steps.compact before space in (Compact space o.0, o.1)
  answered before (Stat g _) = let o = steps.stat before g in (Stat g o.0, o.1)
  answered before (Map space _) = (Map space (blocks_in before.map space), before)
  answered before (Lives i _) = (Lives i (is_some (before.living i)), before)
  answered before (Copied _) = (Copied before.copied, before)

  -- the same of a run of calls
  abbrev pub all_answered : State M → List (Call M) → List (Call M)
  all_answered before [] = []
  all_answered before (call ∷ calls) = let next = answered before call in next.0 ∷ all_answered next.1 calls

  -- the instance that the call is about is lawful
  abbrev pub IsLawfulCall : State M → Call M → Type 0
  IsLawfulCall before (Create i kind g p answer) = IsTrue (kinds.lawful kind p before.poison)
  IsLawfulCall before (Control i c answer) = IfSome (before.living i) (IsLawful kinds before.poison)
  IsLawfulCall before (Process i block out) = IfSome (before.living i) (IsLawful kinds before.poison)
  IsLawfulCall before _ = Unit {0}

  -- all its instances are, with any parameters
  abbrev pub AreLawful : Option ℤ → Type 0
  AreLawful poison = (kind : M) (p : List ℤ) → IsTrue (kinds.lawful kind p poison)
