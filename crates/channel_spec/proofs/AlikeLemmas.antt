-- A control of channels that are alike.
use Rattle.std.proofs.Common.{◌≡◌, ℕ, [], ◌∷◌, Option, Some, None, Result, Ok, refl, ap, sym, ◌∙◌, subst}
use Rattle.host_map.specs.Activity.{with_at}
use Rattle.std.specs.Prelude.{not, is_none, IfSome}
use Rattle.ialg.specs.declared.refusal.Refusal.{Refusal}
use Rattle.ialg.specs.declared.refusal.Refusal.TheVariants.{Range, Missing, Command}
use Rattle.ialg.specs.Refusals.{first_refusal}
use Rattle.ialg.specs.History.{Ctl}
use Rattle.ialg.specs.History as history
use Rattle.ialg.specs.Meaning.{Meaning, Status}
use Rattle.host_spec.specs.State.{Living, State, is_instance_number}
use Rattle.host_spec.specs.Choices.{IsLawful}
use Rattle.host_spec.specs.Steps.{Outcome, unless, controlled}
use Rattle.host_spec.specs.Answers.{accepted, status_at}
use Rattle.host_spec.specs.Calls as host_calls
use Rattle.host_spec.specs.Calls.Call.{Control}
use Rattle.host_spec.proofs.AnswerLemmas.{computed}
use Rattle.channel_spec.specs.Channels.{Channels}
use Rattle.channel_spec.specs.Calls.{Does}
use Rattle.channel_spec.specs.Calls.Call.{OfHost}
use Rattle.channel_spec.specs.Cuts.{AreAlike}

module _ {M : Type 0} (kinds : Meaning M) (i : ℕ) (c : Ctl) where
  -- over hosts with these instances
  abbrev controlling : State M → (ℕ → Option (Living M)) → Outcome (State M) Status
  controlling before living =
      unless (first_refusal ((not (is_instance_number i), Range) ∷ (is_none (living i), Missing) ∷ (not (accepted kinds (living i) c), Command) ∷ [])) before
      (Ok (status_at kinds (living i) c), controlled before i (living i) c)

  control_is : (before after : State M) (answer : Result Status Refusal) → IfSome (before.living i) (IsLawful kinds before.poison)
      → host_calls.Does kinds before (Control i c answer) after → (answer, after) ≡ controlling before before.living
  control_is before after answer lawful does = ap (λ told. (answer_in told.0, told.1)) (computed kinds before after (Control i c answer) does lawful)
    where
      answer_in : host_calls.Call M → Result Status Refusal
      answer_in (Control j ctl told) = told
      answer_in _ = answer

  module _ (one other : Channels M) (alike : AreAlike one other) where
    -- the same answer, and hosts that are alike
    abbrev Agree : Outcome (State M) Status → Outcome (State M) Status → Type 0
    Agree a b = (a.0 ≡ b.0) × AreAlike (record one { host = a.1 }) (record other { host = b.1 })

    controlled_agree : (x : Option (Living M)) (s : Status) → Agree (Ok s, controlled one.host i x c) (Ok s, controlled other.host i x c)
    controlled_agree None s = (refl, alike)
    controlled_agree (Some x) s = (
      refl,
      record {
        living = ap (λ living. with_at living i (Some (record x { history = history.Control c ∷ x.history }))) alike.living;
        map = alike.map;
        sizes = alike.sizes;
        poison = alike.poison;
        copied = alike.copied;
        chained = alike.chained;
      },
    )

    unless_agree : (r : Option Refusal) (a b : Outcome (State M) Status) → Agree a b → Agree (unless r one.host a) (unless r other.host b)
    unless_agree None a b agree = agree
    unless_agree (Some refusal) a b agree = (refl, alike)

    pub control_agrees : (one_after other_after : Channels M) (answer other_answer : Result Status Refusal)
        → IfSome (one.host.living i) (IsLawful kinds one.host.poison)
        → Does kinds one (OfHost (Control i c answer)) one_after → Does kinds other (OfHost (Control i c other_answer)) other_after
        → (answer ≡ other_answer) × AreAlike one_after other_after
    control_agrees one_after other_after answer other_answer lawful does others =
        let other_lawful : IfSome (other.host.living i) (IsLawful kinds other.host.poison) =
        subst (λ p. IfSome (other.host.living i) (IsLawful kinds p)) alike.poison (subst (λ living. IfSome (living i) (IsLawful kinds one.host.poison)) alike.living lawful) in
        let first = control_is one.host one_after.host answer lawful does.1 in
        let second = control_is other.host other_after.host other_answer other_lawful others.1 ∙ ap (λ living. controlling other.host living) (sym alike.living) in
        let agree = unless_agree _ _ _ (controlled_agree (one.host.living i) (status_at kinds (one.host.living i) c)) in
        let now : Agree (answer, one_after.host) (other_answer, other_after.host) =
        subst (λ a. Agree a (other_answer, other_after.host)) (sym first) (subst (λ b. Agree (controlling one.host one.host.living) b) (sym second) agree) in (
          now.0,
          record {
            living = now.1.living;
            map = now.1.map;
            sizes = now.1.sizes;
            poison = now.1.poison;
            copied = now.1.copied;
            chained = does.2 ∙ alike.chained ∙ sym others.2;
          },
        )
