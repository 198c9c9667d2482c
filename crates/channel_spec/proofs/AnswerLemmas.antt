-- Lawful kinds leave nothing free.
use Rattle.std.proofs.Common.{◌≡◌, ℕ, ℤ, List, [], ◌∷◌, refl, ap, sym, ◌∙◌, subst}
use Rattle.ialg.specs.Meaning.{Meaning}
use Rattle.host_spec.specs.State.{State}
use Rattle.host_spec.specs.Calls as host_calls
use Rattle.host_spec.specs.Calls.Call.{Process}
use Rattle.host_spec.specs.Answers as host_answers
use Rattle.host_spec.specs.Answers.{AreLawful}
use Rattle.host_spec.proofs.AnswerLemmas.{one_computed}
use Rattle.host_spec.proofs.CallLemmas.{host_stays}
use Rattle.channel_spec.specs.Channels.{Channels, members_at}
use Rattle.channel_spec.specs.Steps.{chain, unchain, delete, ready}
use Rattle.channel_spec.specs.Parts.{Passes, on_host}
use Rattle.channel_spec.proofs.PassingLemmas.{fed_passes}
use Rattle.channel_spec.specs.Calls.{Call, Does}
use Rattle.channel_spec.specs.Calls.Call.{Chain, Unchain, Remove, Ready, Feed, OfHost}
use Rattle.channel_spec.specs.Answers.{passed, answered}

-- a call with its answer, and the state after it
abbrev Told : {M A : Type 0} → (A → Call M) → A → Channels M → A → Channels M → Type 0
Told {M = M} call answer after value next = ◌≡◌ {A = Call M × Channels M} (call answer, after) (call value, next)

told : {M A : Type 0} (call : A → Call M) (answer value : A) (after next : Channels M) → answer ≡ value → after ≡ next → Told call answer after value next
told call answer value after next e f = subst (λ v. Told call answer after v next) e (subst (λ s. Told call answer after answer s) f refl)

with_answer : {M A : Type 0} (call : A → Call M) (answer : A) (after : Channels M) (outcome : A × Channels M) → (answer, after) ≡ outcome
    → Told call answer after outcome.0 outcome.1
with_answer call answer after outcome e = told call answer outcome.0 after outcome.1 (ap (λ o. o.0) e) (ap (λ o. o.1) e)

-- the same channels over the host's new state
moved : {M : Type 0} (before after : Channels M) (host : State M) → after.host ≡ host → after.chained ≡ before.chained → after ≡ on_host before host
moved before after host e f = ap (λ chained. record after { chained = chained }) f ∙ ap (λ h. on_host before h) e

module _ {M : Type 0} (kinds : Meaning M) where
  abbrev output_of_call : host_calls.Call M → List ℤ
  output_of_call (Process i block out) = out
  output_of_call _ = []

  -- what is given, and the host after it
  abbrev Given : List ℤ → State M → List ℤ × State M → Type 0
  Given out after next = ◌≡◌ {A = List ℤ × State M} (out, after) next

  given : (out block : List ℤ) (after before : State M) → out ≡ block → after ≡ before → Given out after (block, before)
  given out block after before e f = subst (λ o. Given out after (o, before)) e (subst (λ s. Given out after (out, s)) f refl)

  block_passed : (is : List ℕ) (before after : State M) (block out : List ℤ) → AreLawful kinds before.poison → Passes kinds before is block out after
      → Given out after (passed kinds before is block)
  block_passed [] before after block out lawful passes =
      given out block after before passes.0 passes.1
  block_passed (i ∷ is) before after [] out lawful passes =
      given out [] after before passes.0 passes.1
  block_passed (i ∷ is) before after (s ∷ block) out lawful passes =
      let first = passes.0 in
      let between = passes.1 in
      let one = one_computed kinds before between lawful (Process i (s ∷ block) first) passes.2 in
      let still : AreLawful kinds between.poison = subst (AreLawful kinds) (sym (host_stays kinds before between (Process i (s ∷ block) first) passes.2).poison) lawful in
      block_passed is between after first out still passes.3
      ∙ ap (λ o. passed kinds o.1 is (output_of_call o.0)) one

  module _ (before after : Channels M) (lawful : AreLawful kinds before.host.poison) where
    pub computed : (call : Call M) → Does kinds before call after → (call, after) ≡ answered kinds before call
    computed (Chain c is answer) does = with_answer (λ a. Chain c is a) answer after (chain before c is) does
    computed (Unchain c answer) does = with_answer (λ a. Unchain c a) answer after (unchain before c) does
    computed (Remove i answer) does = with_answer (λ a. Remove i a) answer after (delete kinds before i) does
    computed (Ready c answer) does = with_answer (λ a. Ready c a) answer after (ready before c) does
    computed (Feed c block out) does =
        let next = passed kinds before.host (members_at before.chained c) block in
        let e = block_passed (members_at before.chained c) before.host after.host block out lawful (fed_passes kinds before after c block out does) in
        told (λ o. Feed c block o) out next.0 after (on_host before next.1) (ap (λ o. o.0) e) (moved before after next.1 (ap (λ o. o.1) e) does.4)
    computed (OfHost call) does =
        let next = host_answers.answered kinds before.host call in
        let e = one_computed kinds before.host after.host lawful call does.1 in
        told (λ o. OfHost o) call next.0 after (on_host before next.1) (ap (λ o. o.0) e) (moved before after next.1 (ap (λ o. o.1) e) does.2)
