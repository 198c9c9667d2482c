-- Channels that are given two blocks.
use Rattle.std.specs.Prelude.{ℕ, ℤ, List}
use Rattle.channel_spec.specs.Channels.{Channels}
use Rattle.channel_spec.specs.Cuts.{Feeds}
use Rattle.voice_channel.specs.Channels.{ChannelsState, ChannelsRefine}
use Rattle.ialg.specs.Laws.{Laws}

-- whatever state the channels refined, channel c was fed the first block and then the second, and gave these; and they refine a state that comes after it
abbrev pub ServesBoth : {M : Type 0} → Laws M → ℕ → (first early second late : List ℤ) → (old new : ChannelsState M) → Type 0
ServesBoth {M} laws c first early second late old new = (before : Channels M) → ChannelsRefine laws old before
    → (between after : Channels M) × Feeds laws.meaning before c first early between × Feeds laws.meaning between c second late after × ChannelsRefine laws new after
