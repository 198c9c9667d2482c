-- Two blocks given to a channel are as good as one.
use Rattle.std.proofs.Common.{◌≡◌, ℕ, ℤ, false, List, ◌++◌, sym}
use Rattle.channel_spec.specs.Channels.{Channels, members_at, has_repeat}
use Rattle.channel_spec.specs.Calls.Call.{Feed}
use Rattle.channel_spec.specs.Cuts.{AreAlike, Feeds, MembersAreLawful}
use Rattle.voice_channel.specs.Channels.{ChannelsState, ChannelsRefine, ChannelsCallRefines}
use Rattle.ialg.specs.Laws.{Laws}

module _ {M : Type 0} (laws : Laws M) where
  -- the law of cuts, for two blocks
  abbrev pub CutsDontShow : Type 0
  CutsDontShow =
      (before between after whole : Channels M) (c : ℕ) (xs ys first second out : List ℤ)
      → MembersAreLawful laws.meaning before c → has_repeat (members_at before.chained c) ≡ false
      → Feeds laws.meaning before c xs first between → Feeds laws.meaning between c ys second after → Feeds laws.meaning before c (xs ++ ys) out whole
      → (out ≡ first ++ second) × AreAlike after whole

  pub as_one : CutsDontShow → (c : ℕ) (xs ys early late : List ℤ) (old between new : ChannelsState M)
      → ChannelsCallRefines laws (Feed c xs early) old between → ChannelsCallRefines laws (Feed c ys late) between new
      → (before after : Channels M) (out : List ℤ) → ChannelsRefine laws old before
      → MembersAreLawful laws.meaning before c → Feeds laws.meaning before c (xs ++ ys) out after → early ++ late ≡ out
  as_one law c xs ys early late old between new first second before after out keeps lawful whole =
      let one = first before keeps in
      let two = second one.0 one.2 in
      sym (law before one.0 two.0 after c xs ys early late out lawful (keeps.held.once c) one.1 two.1 whole).0
