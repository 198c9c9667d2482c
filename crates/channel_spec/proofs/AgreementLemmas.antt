-- What the members of two channels give that were given the same.
use Rattle.std.proofs.Common.{◌≡◌, ℕ, ℤ, false, List, [], ◌∷◌, Option, Some, None, refl, ap, sym, ◌∙◌, subst, nat_eq}
use Rattle.host_map.specs.Activity.{with_at}
use Rattle.relocate.proofs.RangeTests.{both_false}
use Rattle.ialg.specs.History.{with_samples, block_output}
use Rattle.ialg.specs.Meaning.{Meaning}
use Rattle.host_spec.specs.State.{Living}
use Rattle.host_spec.specs.Answers.{output_at}
use Rattle.channel_spec.specs.Channels.{Channels, members_at, has_number, has_repeat}
use Rattle.channel_spec.specs.Agreement.{LiveEqually, AllLiveEqually, MembersAgree}
use Rattle.channel_spec.proofs.FlowLemmas.{Instances, grown, fed, flow, stays, there, elsewhere, not_number}
use Rattle.channel_spec.proofs.FeedLemmas.{FlowsIn}

module _ {M : Type 0} (kinds : Meaning M) where
  output_agrees : (x y : Option (Living M)) (block : List ℤ) → LiveEqually x y → output_at kinds x block ≡ output_at kinds y block
  output_agrees (Some x) (Some y) block same = λ p. block_output (kinds.gives (same.kind p) (same.params p)) (same.history p) block
  output_agrees (Some x) None block same = absurd same
  output_agrees None y block same = absurd same

  grown_agrees : (x y : Option (Living M)) (block : List ℤ) → LiveEqually x y → LiveEqually (grown x block) (grown y block)
  grown_agrees (Some x) (Some y) block same =
      record { kind = same.kind; params = same.params; history = ap (λ h. with_samples h block) same.history }
  grown_agrees (Some x) None block same = absurd same
  grown_agrees None y block same = absurd same

  -- where instances are replaced that aren't among these
  others_agree : (one other : Instances M) (i j : ℕ) (v w : Option (Living M)) (is js : List ℕ)
      → has_number is i ≡ false → has_number js j ≡ false → AllLiveEqually one is other js
      → AllLiveEqually (with_at one i v) is (with_at other j w) js
  others_agree one other i j v w [] [] none nor same = tt
  others_agree one other i j v w [] (l ∷ js) none nor same = absurd same
  others_agree one other i j v w (k ∷ is) [] none nor same = absurd same
  others_agree one other i j v w (k ∷ is) (l ∷ js) none nor same =
      let here = both_false (nat_eq i k) (has_number is i) none in
      let over = both_false (nat_eq j l) (has_number js j) nor in
      let kept = elsewhere one i v k (λ e. not_number kinds k i here.0 (sym e)) in
      let left = elsewhere other j w l (λ e. not_number kinds l j over.0 (sym e)) in (
        subst (λ x. LiveEqually x (with_at other j w l)) (sym kept) (subst (λ y. LiveEqually (one k) y) (sym left) same.0),
        others_agree one other i j v w is js here.1 over.1 same.1,
      )

  -- the same comes out, and the members agree still
  abbrev Agree : List ℤ × Instances M → List ℕ → List ℤ × Instances M → List ℕ → Type 0
  Agree one is other js = (one.0 ≡ other.0) × AllLiveEqually one.1 is other.1 js

  flow_agrees : (is js : List ℕ) (one other : Instances M) (block : List ℤ) → has_repeat is ≡ false → has_repeat js ≡ false
      → AllLiveEqually one is other js → Agree (flow kinds one is block) is (flow kinds other js block) js
  flow_agrees [] [] one other block once nor same = (refl, tt)
  flow_agrees [] (j ∷ js) one other block once nor same = absurd same
  flow_agrees (i ∷ is) [] one other block once nor same = absurd same
  flow_agrees (i ∷ is) (j ∷ js) one other block once nor same =
      let here = both_false (has_number is i) (has_repeat is) once in
      let over = both_false (has_number js j) (has_repeat js) nor in
      let v = grown (one i) block in
      let w = grown (other j) block in
      let given = output_at kinds (one i) block in
      let its = output_at kinds (other j) block in
      let rest = flow_agrees is js (fed one i block) (fed other j block) given here.1 over.1 (others_agree one other i j v w is js here.0 over.0 same.1) in
      let on : Agree (flow kinds (fed one i block) is given) is (flow kinds (fed other j block) js its) js =
      subst (λ b. Agree (flow kinds (fed one i block) is given) is (flow kinds (fed other j block) js b) js) (output_agrees (one i) (other j) block same.0) rest in
      let mine : (flow kinds (fed one i block) is given).1 i ≡ v = stays kinds is (fed one i block) i given here.0 ∙ there one i v in
      let theirs : (flow kinds (fed other j block) js its).1 j ≡ w = stays kinds js (fed other j block) j its over.0 ∙ there other j w in
      let first : LiveEqually ((flow kinds (fed one i block) is given).1 i) ((flow kinds (fed other j block) js its).1 j) =
      subst (λ x. LiveEqually x ((flow kinds (fed other j block) js its).1 j)) (sym mine)
      (subst (λ y. LiveEqually v y) (sym theirs) (grown_agrees (one i) (other j) block same.0)) in
      (on.0, (first, on.1))

  module _ (one one_after other other_after : Channels M) (c d : ℕ) (block out other_out : List ℤ) where
    abbrev members : List ℕ
    members = members_at one.chained c

    abbrev other_members : List ℕ
    other_members = members_at other.chained d

    pub members_agree : has_repeat members ≡ false → has_repeat other_members ≡ false → MembersAgree one c other d
        → FlowsIn kinds one c block out one_after → FlowsIn kinds other d block other_out other_after
        → (out ≡ other_out) × MembersAgree one_after c other_after d
    members_agree once nor same flows others =
        let now : Agree (out, one_after.host.living) members (other_out, other_after.host.living) other_members =
        subst (λ r. Agree r members (other_out, other_after.host.living) other_members) (sym flows.0.sound)
        (subst (λ r. Agree (flow kinds one.host.living members block) members r other_members) (sym others.0.sound)
        (flow_agrees members other_members one.host.living other.host.living block once nor same)) in (
          now.0,
          subst (λ all. AllLiveEqually one_after.host.living (members_at all c) other_after.host.living (members_at other_after.chained d)) (sym flows.1)
              (subst (λ all. AllLiveEqually one_after.host.living members other_after.host.living (members_at all d)) (sym others.1) now.1),
        )
