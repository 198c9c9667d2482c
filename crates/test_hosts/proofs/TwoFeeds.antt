-- One feed after another.
use Rattle.channel_spec.specs.Channels.{Channels}
use Rattle.voice_channel.specs.Channels.{ChannelsState, ChannelsRefine}
use Rattle.ialg.specs.Laws.{Laws}

module _ {M : Type 0} (laws : Laws M) where
  -- from whatever state that is kept the first leads to one that is kept, and from that the second does. A feed is such a step, as each call is
  pub serves_both : {First Second : Channels M → Channels M → Type 0} {old between new : ChannelsState M}
      → ((before : Channels M) → ChannelsRefine laws old before → (after : Channels M) × First before after × ChannelsRefine laws between after)
      → ((before : Channels M) → ChannelsRefine laws between before → (after : Channels M) × Second before after × ChannelsRefine laws new after)
      → (before : Channels M) → ChannelsRefine laws old before → (mid after : Channels M) × First before mid × Second mid after × ChannelsRefine laws new after
  serves_both one two before keeps =
      let fed = one before keeps in
      let next = two fed.0 fed.2 in
      (fed.0, next.0, fed.1, next.1, next.2)
