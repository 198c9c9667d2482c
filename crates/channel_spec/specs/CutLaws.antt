-- What the laws of cuts say.
use Rattle.std.specs.Prelude.{◌≡◌, ◌++◌, ℕ, ℤ, false, List, IfSome, Result}
use Rattle.ialg.specs.declared.refusal.Refusal.{Refusal}
use Rattle.ialg.specs.History.{Ctl}
use Rattle.ialg.specs.Meaning.{Meaning, Status}
use Rattle.host_spec.specs.Choices.{IsLawful}
use Rattle.host_spec.specs.Calls.Call.{Control}
use Rattle.channel_spec.specs.Channels.{Channels, members_at, has_repeat}
use Rattle.channel_spec.specs.Calls.{Does}
use Rattle.channel_spec.specs.Calls.Call.{OfHost}
use Rattle.channel_spec.specs.Cuts.{joined, AreAlike, MembersAreLawful, GroupsAreApart, Feeds, FeedsAll}
use Rattle.channel_spec.specs.Agreement.{MembersAgree}

-- what a channel of lawful members gives for two blocks is what it gives for the two as one
abbrev pub TwoBlocksAreOne : Type 0 → Type 0
TwoBlocksAreOne M =
    (kinds : Meaning M) (before between after whole : Channels M) (c : ℕ) (xs ys first second out : List ℤ)
    → MembersAreLawful kinds before c → has_repeat (members_at before.chained c) ≡ false
    → Feeds kinds before c xs first between → Feeds kinds between c ys second after → Feeds kinds before c (xs ++ ys) out whole
    → (out ≡ first ++ second) × AreAlike after whole

-- any two cuttings of the same samples, fed where all but activity is alike, give the same and leave all but activity alike
abbrev pub AnyCutsAgree : Type 0 → Type 0
AnyCutsAgree M =
    (kinds : Meaning M) (one one_after other other_after : Channels M) (c : ℕ) (cut other_cut : List (List ℤ)) (out other_out : List ℤ)
    → MembersAreLawful kinds one c → has_repeat (members_at one.chained c) ≡ false → AreAlike one other
    → FeedsAll kinds one c cut out one_after → FeedsAll kinds other c other_cut other_out other_after → joined cut ≡ joined other_cut
    → (out ≡ other_out) × AreAlike one_after other_after

-- where no two members share a group, any two cuttings of the same samples leave the same activity
abbrev pub AnyCutsLeaveOneActivity : Type 0 → Type 0
AnyCutsLeaveOneActivity M =
    (kinds : Meaning M) (one one_after other other_after : Channels M) (c : ℕ) (cut other_cut : List (List ℤ)) (out other_out : List ℤ)
    → MembersAreLawful kinds one c → has_repeat (members_at one.chained c) ≡ false → GroupsAreApart kinds one c
    → AreAlike one other → one.host.activity ≡ other.host.activity
    → FeedsAll kinds one c cut out one_after → FeedsAll kinds other c other_cut other_out other_after → joined cut ≡ joined other_cut
    → one_after.host.activity ≡ other_after.host.activity

-- a lawful instance answers a control the same in channels that are alike, and they stay alike
abbrev pub ControlsAgreeWhereAlike : Type 0 → Type 0
ControlsAgreeWhereAlike M =
    (kinds : Meaning M) (one one_after other other_after : Channels M) (i : ℕ) (c : Ctl) (answer other_answer : Result Status Refusal)
    → IfSome (one.host.living i) (IsLawful kinds one.host.poison) → AreAlike one other
    → Does kinds one (OfHost (Control i c answer)) one_after → Does kinds other (OfHost (Control i c other_answer)) other_after
    → (answer ≡ other_answer) × AreAlike one_after other_after

-- in two runs channels whose members were given the same give the same for the same samples, and then their members were given the same again
abbrev pub ChannelsOfTwoRunsAgree : Type 0 → Type 0
ChannelsOfTwoRunsAgree M =
    (kinds : Meaning M) (one one_after other other_after : Channels M) (c d : ℕ) (cut other_cut : List (List ℤ)) (out other_out : List ℤ)
    → MembersAreLawful kinds one c → has_repeat (members_at one.chained c) ≡ false
    → MembersAreLawful kinds other d → has_repeat (members_at other.chained d) ≡ false
    → MembersAgree one c other d
    → FeedsAll kinds one c cut out one_after → FeedsAll kinds other d other_cut other_out other_after → joined cut ≡ joined other_cut
    → (out ≡ other_out) × MembersAgree one_after c other_after d
