-- Calls that channels serve one after another, and what follows.
use Rattle.std.specs.Prelude.{ℕ, ℤ, ◌≡◌, List, [], ◌∷◌}
use Rattle.gateway_kinds.specs.Kinds.{Kind, kind_meaning}
use Rattle.gateway_kinds.specs.Keeps.{kind_laws}
use Rattle.host_spec.specs.Calls as host_calls
use Rattle.channel_spec.specs.Channels.{Channels}
use Rattle.channel_spec.specs.Calls.{Call}
use Rattle.voice_channel.specs.Channels.{ChannelsState, ChannelsRefine, ChannelsCallRefines}
use Rattle.console_spec.specs.HostRuns.{RunsOnHost}
use Rattle.console_spec.specs.Births.{Born, GoesByItsHistory}

-- each call was served, by the channels that the one before it left
abbrev pub AreServed : List (Call Kind) → ChannelsState Kind → ChannelsState Kind → Type 0
AreServed [] old new = new ≡ old
AreServed (call ∷ calls) old new = (between : ChannelsState Kind) × ChannelsCallRefines kind_laws call old between × AreServed calls between new

-- the calls are a run of the specification, which asks these calls of its host; and each instance goes by its own history
pub record GoesByHistories (calls : List (Call Kind)) (before : Channels Kind) (new : ChannelsState Kind) : Type 0 where
  pub after : Channels Kind
  pub refines : ChannelsRefine kind_laws new after
  pub asked : List (host_calls.Call Kind)
  pub runs : RunsOnHost kind_meaning before calls asked after
  pub each : (i g : ℕ) (kind : Kind) (p : List ℤ) (later : List (host_calls.Call Kind)) (born : Born i kind g p asked later)
      → GoesByItsHistory kind_meaning i kind g p later born.rest after.host

abbrev pub ServedCallsGoByHistories : Type 0
ServedCallsGoByHistories = (calls : List (Call Kind)) (old new : ChannelsState Kind) (before : Channels Kind) → AreServed calls old new → ChannelsRefine kind_laws old before
    → GoesByHistories calls before new
