-- The calls of channels: what each may answer, and which state may come after it.
use Rattle.std.specs.Prelude.{ℕ, ℤ, ◌≡◌, List, [], ◌∷◌, Option, None, Result}
use Rattle.std.specs.List.{FoldsTo}
use Rattle.std.specs.Result.{result_err}
use Rattle.ialg.specs.declared.refusal.Refusal.{Refusal}
use Rattle.ialg.specs.Meaning.{Meaning}
use Rattle.host_spec.specs.Calls as host_calls
use Rattle.host_spec.specs.Calls.Call.{Delete, Process}
use Rattle.channel_spec.specs.Channels.{Channels, members_at}
use Rattle.channel_spec.specs.Steps as steps

-- a call, and what was answered to it
pub data Call (M : Type 0) : Type 0 where
  Chain : (c : ℕ) (members : List ℕ) (answer : Result (Unit {0}) Refusal) → Call M
  Unchain Ready : (c : ℕ) (answer : Result (Unit {0}) Refusal) → Call M
  Remove : (i : ℕ) (answer : Result (Unit {0}) Refusal) → Call M
  Feed : (c : ℕ) (block out : List ℤ) → Call M
  OfHost : (call : host_calls.Call M) → Call M

-- the calls of a host that channels pass on: all but deletions and blocks of samples
abbrev pub IsPassedOn : {M : Type 0} → host_calls.Call M → Type 0
IsPassedOn (Delete i answer) = ⊥
IsPassedOn (Process i block out) = ⊥
IsPassedOn _ = Unit {0}

-- a block passes through members in order, and each is given what the one before it gave: these calls ask that of the host. An empty block
-- is given to nobody
abbrev pub IsPassing : {M : Type 0} → List ℕ → (block out : List ℤ) → List (host_calls.Call M) → Type 0
IsPassing [] block out asked = (out ≡ block) × (asked ≡ [])
IsPassing (i ∷ is) [] out asked = (out ≡ []) × (asked ≡ [])
IsPassing {M} (i ∷ is) (s ∷ block) out asked =
    (given : List ℤ) × (rest : List (host_calls.Call M)) × (asked ≡ Process i (s ∷ block) given ∷ rest) × IsPassing is given out rest

module _ {M : Type 0} (kinds : Meaning M) where
  -- the call answers so, and leads from one state to the other. A block that is fed, and a call of the host, change no channel
  abbrev pub Does : Channels M → Call M → Channels M → Type 0
  Does before (Chain c members answer) after = (answer, after) ≡ steps.chain before c members
  Does before (Unchain c answer) after = (answer, after) ≡ steps.unchain before c
  Does before (Remove i answer) after = (answer, after) ≡ steps.delete kinds before i
  Does before (Ready c answer) after = (answer, after) ≡ steps.ready before c
  Does before (Feed c block out) after =
      (steps.channel_refusal before c ≡ None) × (asked : List (host_calls.Call M)) × IsPassing (members_at before.chained c) block out asked
      × FoldsTo (host_calls.Does kinds) before.host asked after.host × (after.chained ≡ before.chained)
  Does before (OfHost call) after = IsPassedOn call × host_calls.Does kinds before.host call after.host × (after.chained ≡ before.chained)

-- why a call was refused, if it was
abbrev pub refusal_of : {M : Type 0} → Call M → Option Refusal
refusal_of (Chain c members answer) = result_err answer
refusal_of (Unchain c answer) = result_err answer
refusal_of (Remove i answer) = result_err answer
refusal_of (Ready c answer) = result_err answer
refusal_of (Feed c block out) = None
refusal_of (OfHost call) = host_calls.refusal_of call
