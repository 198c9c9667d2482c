-- What channels are, and when they refine a state of the machine.
use Rattle.std.specs.Prelude.{ℕ, ℤ, ◌≡◌, true, List}
use Rattle.alg_host.specs.Hosts.{HostState}
use Rattle.alg_host.specs.Hosts as hosts
use Rattle.host_spec.specs.State.{State}
use Rattle.channel_spec.specs.Channels.{Channels}
use Rattle.channel_spec.specs.Parts.{Passes, all_live}
use Rattle.channel_spec.specs.Calls.{Call, Does}
use Rattle.channel_spec.specs.Laws.{AreHeld}
use Rattle.ialg.specs.Laws.{Laws}

-- a host, and the members of each channel; one that isn't chained has none
pub record ChannelsState (M : Type 0) : Type 0 where
  pub host : HostState M
  pub chained : List (List ℕ)

-- the channels refine a state: the host does, the channels have its members, and these live, each in one channel
pub record ChannelsRefine {M : Type 0} (laws : Laws M) (channels : ChannelsState M) (state : Channels M) : Type 0 where
  pub host : hosts.HostRefines laws channels.host state.host
  pub chained : state.chained ≡ channels.chained
  pub held : AreHeld state

-- whatever state the channels refined, the call was answered as the machine may answer it there, and they refine a state that comes after it
abbrev pub ChannelsCallRefines : {M : Type 0} → Laws M → Call M → ChannelsState M → ChannelsState M → Type 0
ChannelsCallRefines {M} laws call old new = (before : Channels M) → ChannelsRefine laws old before
    → (after : Channels M) × Does laws.meaning before call after × ChannelsRefine laws new after

-- whatever state the host refined in which the members live, the block passed through them, and the host refines what comes after it
abbrev pub PassesThrough : {M : Type 0} → Laws M → List ℕ → (block out : List ℤ) → (old new : HostState M) → Type 0
PassesThrough {M} laws members block out old new = (before : State M)
    → hosts.HostRefines laws old before → all_live before members ≡ true
    → (after : State M) × Passes laws.meaning before members block out after × hosts.HostRefines laws new after
