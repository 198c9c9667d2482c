-- Two runs.
use Rattle.std.proofs.Common.{◌≡◌, ℕ, ℤ, Bool, true, false, List, Option, Result, Ok, Err, IfOk, refl, sym, ◌∙◌, ap}
use Rattle.std.specs.Result.{result_err}
use Rattle.std.specs.Prelude.{if◌then◌else◌}
use Rattle.ialg.specs.declared.refusal.Refusal.TheVariants.{Command}
use Rattle.ialg.specs.History.{History, Ctl}
use Rattle.ialg.specs.Meaning.{Meaning, Status, status_of}
use Rattle.ialg.specs.declared.refusal.Refusal.{Refusal}
use Rattle.host_map.specs.declared.parts.Sizes.{Sizes}
use Rattle.voice_script.specs.Script.{lines_of}
use Rattle.voice_script.specs.Widths.{Widths}
use Rattle.script_server.specs.Runs.{Devices, honest_at, octets_to_come}
use Rattle.console_spec.specs.Told.{answer_of}
use Rattle.console_spec.specs.MainLaw.{InstancesOfTwoRunsAgree}
use Rattle.dsp_console.specs.Headline.{RunHeadline}
use Rattle.test_runs.specs.TwoRuns.{RunsAgree}

-- of runs that both end well
pub both : {A B E F : Type 0} (H : A → Type 0) (K : B → Type 0) (C : A → B → Type 0) (r : Result A E) (s : Result B F) → IfOk r H → IfOk s K
    → ((a : A) (b : B) → H a → K b → C a b) → IfOk r (λ a. IfOk s (λ b. C a b))
both H K C (Ok a) (Ok b) one two joint = joint a b one two
both H K C (Ok a) (Err e) one two joint = tt
both H K C (Err e) s one two joint = tt

-- what is taken is refused to nobody, and what isn't to everyone
refused_by : (is_taken : Bool) (one other : Status) → result_err (if is_taken then Ok one else Err Command) ≡ result_err (if is_taken then Ok other else Err Command)
refused_by true one other = refl
refused_by false one other = refl

-- whether a control is refused doesn't depend on what was given
refused_alike : {M : Type 0} (kinds : Meaning M) (kind : M) (p : List ℤ) (h since : History) (c : Ctl) (answer other : Result Status Refusal)
    → answer ≡ answer_of kinds kind p h c → other ≡ answer_of kinds kind p since c → result_err answer ≡ result_err other
refused_alike kinds kind p h since c answer other one two =
    ap result_err one ∙ refused_by (kinds.accepts kind p c) (status_of kinds kind p h c) (status_of kinds kind p since c) ∙ sym (ap result_err two)

-- what the law says of two runs that both have the headline
module _ {M : Type 0} {kinds : Meaning M} {named : List ℕ → Option M}
    {widths : Widths} {sizes : Sizes} {poison : Option ℤ} {refused : ℕ} {old new : Devices}
    {other_widths : Widths} {other_sizes : Sizes} {other_poison : Option ℤ} {other_refused : ℕ} {other_old other_new : Devices} where
  pub runs_agree : InstancesOfTwoRunsAgree kinds named
      → RunHeadline kinds named widths sizes poison refused old new
      → RunHeadline kinds named other_widths other_sizes other_poison other_refused other_old other_new
      → RunsAgree kinds named widths sizes poison refused old new other_widths other_sizes other_poison other_refused other_old other_new
  runs_agree law first second = record {
    one = first;
    two = second;
    agree = law widths other_widths sizes other_sizes poison other_poison
        (lines_of old.script.coming) (octets_to_come old.inputs) (lines_of other_old.script.coming) (octets_to_come other_old.inputs)
        (honest_at old.inputs) (honest_at other_old.inputs) first.serves.answer second.serves.answer first.says second.says;
    granted = λ i j g h kind p later since lawful born lawful' born' control before rest answer at other_before other_rest other_answer other_at.
        refused_alike kinds kind p _ _ control answer other_answer
        ((first.says.each i kind g p later lawful born).gives.controls before rest control answer at)
        ((second.says.each j kind h p since lawful' born').gives.controls other_before other_rest control other_answer other_at);
  }
