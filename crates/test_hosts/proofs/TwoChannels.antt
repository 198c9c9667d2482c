-- Two blocks given to a channel of one run, and both as one to a channel of another run.
use Rattle.std.proofs.Common.{◌≡◌, ℕ, ℤ, false, List, [], ◌∷◌, ◌++◌, refl, ap, sym, ◌∙◌, append-nil}
use Rattle.channel_spec.specs.Channels.{Channels, members_at, has_repeat}
use Rattle.channel_spec.specs.Calls.Call.{Feed}
use Rattle.channel_spec.specs.Cuts.{joined, MembersAreLawful, FeedsAll}
use Rattle.channel_spec.specs.Agreement.{MembersAgree}
use Rattle.voice_channel.specs.Channels.{ChannelsState, ChannelsRefine, ChannelsCallRefines}
use Rattle.ialg.specs.Laws.{Laws}

module _ {M : Type 0} (laws : Laws M) where
  -- the law of two runs
  abbrev pub ChannelsAgree : Type 0
  ChannelsAgree =
      (one one_after other other_after : Channels M) (c d : ℕ) (cut other_cut : List (List ℤ)) (out other_out : List ℤ)
      → MembersAreLawful laws.meaning one c → has_repeat (members_at one.chained c) ≡ false
      → MembersAreLawful laws.meaning other d → has_repeat (members_at other.chained d) ≡ false
      → MembersAgree one c other d
      → FeedsAll laws.meaning one c cut out one_after → FeedsAll laws.meaning other d other_cut other_out other_after → joined cut ≡ joined other_cut
      → (out ≡ other_out) × MembersAgree one_after c other_after d

  pub as_given : ChannelsAgree → (c d : ℕ) (xs ys whole early late given : List ℤ) (old between new beside later : ChannelsState M) → xs ++ ys ≡ whole
      → ChannelsCallRefines laws (Feed c xs early) old between → ChannelsCallRefines laws (Feed c ys late) between new
      → ChannelsCallRefines laws (Feed d whole given) beside later
      → (before other_before : Channels M) → ChannelsRefine laws old before → ChannelsRefine laws beside other_before
      → MembersAreLawful laws.meaning before c → MembersAreLawful laws.meaning other_before d → MembersAgree before c other_before d
      → early ++ late ≡ given
  as_given law c d xs ys whole early late given old between new beside later joint first second third before other_before keeps others lawful nor_lawful agree =
      let one = first before keeps in
      let two = second one.0 one.2 in
      let three = third other_before others in
      let cut : FeedsAll laws.meaning before c (xs ∷ ys ∷ []) (early ++ (late ++ [])) two.0 =
      (early, late ++ [], one.0, one.1, (late, [], two.0, two.1, (refl, refl), refl), refl) in
      let at_once : FeedsAll laws.meaning other_before d (whole ∷ []) (given ++ []) three.0 = (given, [], three.0, three.1, (refl, refl), refl) in
      let same : joined (xs ∷ ys ∷ []) ≡ joined (whole ∷ []) = ap (λ l. xs ++ l) (append-nil ys) ∙ joint ∙ sym (append-nil whole) in
      let outputs = law before two.0 other_before three.0 c d (xs ∷ ys ∷ []) (whole ∷ []) (early ++ (late ++ [])) (given ++ [])
      lawful (keeps.held.once c) nor_lawful (others.held.once d) agree cut at_once same in
      ap (λ l. early ++ l) (sym (append-nil late)) ∙ outputs.0 ∙ append-nil given
