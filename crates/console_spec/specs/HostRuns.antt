-- What calls of channels ask of their host, and whole runs of both.
use Rattle.std.specs.Prelude.{ℕ, ◌≡◌, List, [], ◌∷◌, ◌++◌, Ok}
use Rattle.ialg.specs.Meaning.{Meaning}
use Rattle.host_spec.specs.Calls as host_calls
use Rattle.host_spec.specs.Calls.Call.{Delete}
use Rattle.channel_spec.specs.Channels.{Channels, members_at}
use Rattle.channel_spec.specs.Calls.{Call, Does, IsPassing}
use Rattle.channel_spec.specs.Calls.Call.{Remove, Feed, OfHost}

module _ {M : Type 0} where
  -- what a call of channels of these members asks of their host
  abbrev pub AsHostCalls : List (List ℕ) → Call M → List (host_calls.Call M) → Type 0
  AsHostCalls chained (Feed c block out) asked = IsPassing (members_at chained c) block out asked
  AsHostCalls chained (Remove i (Ok done)) asked = asked ≡ Delete i (Ok done) ∷ []
  AsHostCalls chained (OfHost call) asked = asked ≡ call ∷ []
  AsHostCalls chained _ asked = asked ≡ []

module _ {M : Type 0} (kinds : Meaning M) where
  -- the calls, one after the other, lead from one state to another
  abbrev pub Leads : Channels M → List (Call M) → Channels M → Type 0
  Leads before [] after = after ≡ before
  Leads before (call ∷ calls) after = (between : Channels M) × Does kinds before call between × Leads between calls after

  -- and ask these of the host, one after the other
  abbrev pub RunsOnHost : Channels M → List (Call M) → List (host_calls.Call M) → Channels M → Type 0
  RunsOnHost before [] asked after = (asked ≡ []) × (after ≡ before)
  RunsOnHost before (call ∷ calls) asked after =
      (between : Channels M) × (first rest : List (host_calls.Call M)) × Does kinds before call between × AsHostCalls before.chained call first
      × RunsOnHost between calls rest after × (asked ≡ first ++ rest)
