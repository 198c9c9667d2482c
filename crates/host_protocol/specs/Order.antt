-- The order that IALG lays down for the calls that an instance gets.
use Rattle.std.specs.Prelude.{ℕ, ℤ, ◌≡◌, List, [], ◌∷◌, ◌++◌, Option, Some, None, nat_eq, if◌then◌else◌}
use Rattle.std.specs.Option.{option_eq}
use Rattle.ialg.specs.Meaning.{Meaning}
use Rattle.host_map.specs.declared.parts.Sizes.{Sizes}
use Rattle.host_spec.specs.State.{Living, State, new_state}
use Rattle.host_spec.specs.Calls.{Call, Does}
use Rattle.ialg.specs.Log.{Called, Init, Activate, Process, Command, Deactivate, Moved}
use Rattle.host_protocol.specs.Protocol.{calls_made}

-- ---- an instance is started once and first, is processed and controlled while it is active, and is told of moves in either state
pub data Stage : Type 0 where
  Unborn Idle Active : Stage

abbrev pub stage_after : Stage → Called → Option Stage
stage_after Unborn Init = Some Idle
stage_after Idle Activate = Some Active
stage_after Idle Moved = Some Idle
stage_after Active Process = Some Active
stage_after Active Command = Some Active
stage_after Active Moved = Some Active
stage_after Active Deactivate = Some Idle
stage_after _ _ = None

abbrev pub stage_then : Option Stage → Called → Option Stage
stage_then None call = None
stage_then (Some stage) call = stage_after stage call

-- the stage after calls, the newest first, or none where they aren't in order
abbrev pub stage_by : Stage → List Called → Option Stage
stage_by from [] = Some from
stage_by from (call ∷ calls) = stage_then (stage_by from calls) call

-- the stage of instance j in a state
abbrev pub stage_of : {M : Type 0} → State M → ℕ → Option (Living M) → Stage
stage_of state j None = Unborn
stage_of state j (Some x) = if option_eq nat_eq (state.activity x.group).active (Some j) then Active else Idle

-- each active member lives, in its group
abbrev pub ActiveLive : {M : Type 0} → State M → Type 0
ActiveLive {M} state = (g j : ℕ) → (state.activity g).active ≡ Some j → (x : Living M) × ((state.living j ≡ Some x) × (x.group ≡ g))

-- ---- the laws

-- whatever a call of the host is, the calls that it makes are in order for each instance that lives after it
abbrev pub CallsAreInOrder : Type 0 → Type 0
CallsAreInOrder M = (kinds : Meaning M) (before after : State M) (call : Call M) (j : ℕ) (x : Living M)
    → Does kinds before call after → ActiveLive before → after.living j ≡ Some x
    → stage_by (stage_of before j (before.living j)) (calls_made kinds before call after j) ≡ Some (stage_of after j (after.living j))

-- and each active member lives, after any call of a host where it was so before. In a new host it is so: no group has an active member
abbrev pub ActiveMembersLive : Type 0 → Type 0
ActiveMembersLive M = (kinds : Meaning M) (before after : State M) (call : Call M)
    → Does kinds before call after → ActiveLive before → ActiveLive after

-- ---- any list of calls of a host

-- the calls that an instance has got since its creation: those that an earlier instance of its number got are none of them
abbrev pub since_creation : {A : Type 0} → Option A → List Called → List Called
since_creation None had = []
since_creation (Some x) had = had

-- the calls that each instance has got since its creation, once the host was called so
abbrev pub calls_after : {M : Type 0} → Meaning M → State M → Call M → State M → (ℕ → List Called) → ℕ → List Called
calls_after kinds before call after had j = calls_made kinds before call after j ++ since_creation (before.living j) (had j)

-- the calls of the host lead from one state to another, and from what each instance has got before them to what it has got behind them
module _ {M : Type 0} (kinds : Meaning M) where
  abbrev pub LeadsTo : State M → (ℕ → List Called) → List (Call M) → State M → (ℕ → List Called) → Type 0
  LeadsTo before had [] after got = (after ≡ before) × (got ≡ had)
  LeadsTo before had (call ∷ calls) after got = (between : State M) × Does kinds before call between × LeadsTo between (calls_after kinds before call between had) calls after got

-- what each living instance has got is in order, and leads to the stage that the state shows
abbrev pub AreInOrder : {M : Type 0} → State M → (ℕ → List Called) → Type 0
AreInOrder {M} state got = (j : ℕ) (x : Living M) → state.living j ≡ Some x → stage_by Unborn (got j) ≡ Some (stage_of state j (state.living j))

-- whatever a new host is called, and as often as one likes
abbrev pub RunsAreInOrder : Type 0 → Type 0
RunsAreInOrder M = (kinds : Meaning M) (sizes : Sizes) (poison : Option ℤ) (calls : List (Call M)) (after : State M) (got : ℕ → List Called)
    → LeadsTo kinds (new_state sizes poison) (λ j. []) calls after got → AreInOrder after got
