-- Lines whose calls are known, one after the other.
use Rattle.std.proofs.Common.{◌≡◌, ◌<◌, ◌+◌, ℕ, ℤ, Bool, true, false, List, [], ◌∷◌, ◌++◌, length, take, drop, Option, None, Result, Ok, Err, inl, inr, ap, sym, ◌∙◌, subst, arith, length-append}
use Rattle.std.proofs.Math.Seq.{drop-append_seam, take-append_seam}
use Rattle.std.specs.Prelude.{◌==◌, nat_le, nat_lt, if◌then◌else◌}
use Rattle.std.proofs.lemmas.Bool.{false≢true, le-ltb, leb-true}
use Rattle.std.proofs.lemmas.Bool.Decides.{eqb_tells}
use Rattle.relocate.proofs.RangeTests.{either}
use Rattle.ialg.specs.declared.refusal.Refusal.{Refusal}
use Rattle.ialg.specs.declared.refusal.Refusal.TheVariants.{Long}
use Rattle.ialg.specs.Meaning.{Meaning}
use Rattle.host_spec.specs.State.{State}
use Rattle.host_spec.specs.Steps.{processed, unless}
use Rattle.host_spec.specs.Calls as host_calls
use Rattle.host_spec.specs.Calls.Call.{Process}
use Rattle.host_spec.specs.Answers.{AreLawful}
use Rattle.channel_spec.specs.Channels.{Channels, members_at}
use Rattle.channel_spec.specs.Steps.{channel_refusal}
use Rattle.channel_spec.specs.Parts.{Passes, on_host}
use Rattle.channel_spec.proofs.PassingLemmas.{fed_passes}
use Rattle.channel_spec.specs.Cuts.{Feeds}
use Rattle.channel_spec.specs.Calls.{Call, IsPassing}
use Rattle.channel_spec.specs.Calls.Call.{Ready, Feed}
use Rattle.channel_spec.specs.Answers.{answered}
use Rattle.channel_spec.proofs.AnswerLemmas.{computed}
use Rattle.voice_script.specs.Script as script
use Rattle.voice_script.specs.Script.{parsed}
use Rattle.voice_script.specs.declared.limits.TheConstants.{LINE_OCTETS}
use Rattle.console_spec.specs.HostRuns.{AsHostCalls, RunsOnHost}
use Rattle.console_spec.specs.Lines.{CommandMakes, IsFed, IsSameBut, IsShort, Left, LineMakes, LinesMake, Makes}

-- where the inputs of these channels are followed, which are honest
module _ {M : Type 0} (kinds : Meaning M) (named : List ℕ → Option M) (honest followed : ℕ → Bool) (are : (c : ℕ) → followed c ≡ true → honest c ≡ true) where
  -- whatever these lines made from here, where the inputs that are followed have these samples left, this holds of it
  pub record Holds (lines : List (List ℕ)) (known : ℕ → List ℤ) (state : Channels M) (P : List (Call M) → List (host_calls.Call M) → Type 0) : Type 0 where
    pub always : (left after : Left) (made : List (Call M)) (asked : List (host_calls.Call M)) (end : Channels M)
        → ((c : ℕ) → followed c ≡ true → left c ≡ known c) → LinesMake honest named lines left made after → RunsOnHost kinds state made asked end → P made asked

  -- a line that isn't long makes what it asks
  short_line : (line : List ℕ) (left between : Left) (first : List (Call M)) → nat_le (length line) LINE_OCTETS ≡ true
      → LineMakes honest (if nat_lt LINE_OCTETS (length line) then Err Long else parsed named line) left first between → LineMakes honest (parsed named line) left first between
  short_line line left between first fits makes =
      subst (λ b. LineMakes honest (if b then Err Long else parsed named line) left first between) (le-ltb LINE_OCTETS (length line) (leb-true (length line) LINE_OCTETS fits)) makes

  pub ended : {known : ℕ → List ℤ} {state : Channels M} {P : List (Call M) → List (host_calls.Call M) → Type 0} → P [] [] → Holds [] known state P
  ended {state = state} {P = P} p = record {
    always = λ left after made asked end k m r.
        let nothing = subst (λ calls. RunsOnHost kinds state calls asked end) m.0 r in
        subst (λ xs. P xs asked) (sym m.0) (subst (λ xs. P [] xs) (sym nothing.0) p);
  }

  -- a line makes one call, whose answer is known
  pub told : {line : List ℕ} {lines : List (List ℕ)} {known : ℕ → List ℤ} {state : Channels M} {P : List (Call M) → List (host_calls.Call M) → Type 0}
      {A : Type 0} (call : A → Call M) (answer : A) (next : Channels M) (host : List (host_calls.Call M))
      → AreLawful kinds state.host.poison
      → nat_le (length line) LINE_OCTETS ≡ true
      → ((left after : Left) (made : List (Call M)) → LineMakes honest (parsed named line) left made after → Makes honest call left made after)
      → ((a : A) → ◌≡◌ {A = Call M × Channels M} (answered kinds state (call a)) (call answer, next))
      → ((asked : List (host_calls.Call M)) → AsHostCalls state.chained (call answer) asked → asked ≡ host)
      → Holds lines known next (λ made asked. P (call answer ∷ made) (host ++ asked))
      → Holds (line ∷ lines) known state P
  told {line = line} {lines = lines} {state = state} {P = P} call answer next host lawful fits makes same hosts go = record {
    always = λ left after made asked end k m r.
        let one = makes left m.0 m.1 (short_line line left m.0 m.1 fits m.3) in
        let made_is : made ≡ call one.0 ∷ m.2 = m.5 ∙ ap (λ first. first ++ m.2) one.1 in
        let ran = subst (λ calls. RunsOnHost kinds state calls asked end) made_is r in
        let c = computed kinds state ran.0 lawful (call one.0) ran.3 ∙ same one.0 in
        let its : call one.0 ≡ call answer = ap (λ o. o.0) c in
        let asks : ran.1 ≡ host = hosts ran.1 (subst (λ x. AsHostCalls state.chained x ran.1) its ran.4) in
        let later : RunsOnHost kinds next m.2 ran.2 end = subst (λ s. RunsOnHost kinds s m.2 ran.2 end) (ap (λ o. o.1) c) ran.5 in
        let p = go.always m.0 after m.2 ran.2 end (λ d f. one.2 d (are d f) ∙ k d f) m.4 later in
        subst (λ x. P x asked) (sym (made_is ∙ ap (λ x. x ∷ m.2) its)) (subst (λ x. P (call answer ∷ m.2) x) (sym (ran.6 ∙ ap (λ first. first ++ ran.2) asks)) p);
  }

  -- the same channels over the host's new state
  moved : (before after : Channels M) (host : State M) → after.host ≡ host → after.chained ≡ before.chained → after ≡ on_host before host
  moved before after host e f = ap (λ chained. record after { chained = chained }) f ∙ ap (λ h. on_host before h) e

  err_is_no_ok : {X : Type 0} (refusal : Refusal) → ◌≡◌ {A = Result (Unit {0}) Refusal} (Err refusal) (Ok tt) → X
  err_is_no_ok refusal e = absurd (cc)

  -- a channel of one member
  module _ (state : Channels M) (c i : ℕ) (ready : channel_refusal state c ≡ None) (only : members_at state.chained c ≡ i ∷ []) where
    abbrev pub fed_with : List ℤ → Channels M
    fed_with block = on_host state (processed state.host i block)

    is_ready : (a : Result (Unit {0}) Refusal) (after : Channels M) → ◌≡◌ {A = Result (Unit {0}) Refusal × Channels M} (a, after) (unless (channel_refusal state c) state (Ok (tt {0}), state))
        → ◌≡◌ {A = Result (Unit {0}) Refusal × Channels M} (a, after) (Ok (tt {0}), state)
    is_ready a after e = subst (λ r. ◌≡◌ {A = Result (Unit {0}) Refusal × Channels M} (a, after) (unless r state (Ok (tt {0}), state))) ready e

    not_refused : {X : Type 0} (refusal : Refusal) (later made : List (Call M)) (asked : List (host_calls.Call M)) (end : Channels M)
        → made ≡ Ready c (Err refusal) ∷ later → RunsOnHost kinds state made asked end → X
    not_refused refusal later made asked end is r =
        let ran = subst (λ calls. RunsOnHost kinds state calls asked end) is r in
        err_is_no_ok refusal (ap (λ o. o.0) (is_ready (Err refusal) ran.0 ran.3))

    -- the channel is asked whether it is ready, and asks nothing of the host
    goes_on : (later made : List (Call M)) (asked : List (host_calls.Call M)) (end : Channels M) → made ≡ Ready c (Ok tt) ∷ later → RunsOnHost kinds state made asked end
        → RunsOnHost kinds state later asked end
    goes_on later made asked end is r =
        let ran = subst (λ calls. RunsOnHost kinds state calls asked end) is r in
        subst (λ all. RunsOnHost kinds state later all end) (sym (ran.6 ∙ ap (λ none. none ++ ran.2) ran.4))
        (subst (λ s. RunsOnHost kinds s later ran.2 end) (ap (λ o. o.1) (is_ready (Ok tt) ran.0 ran.3)) ran.5)

    module _ (x : ℤ) (xs out : List ℤ) where
      fed_state : (after : Channels M) → Feeds kinds state c (x ∷ xs) out after → after ≡ fed_with (x ∷ xs)
      fed_state after f =
          let passes : Passes kinds state.host (i ∷ []) (x ∷ xs) out after.host = subst (λ is. Passes kinds state.host is (x ∷ xs) out after.host) only (fed_passes kinds state after c (x ∷ xs) out f) in
          moved state after (processed state.host i (x ∷ xs)) (passes.3.1 ∙ passes.2.outcome) f.4

      asked_is : (asked : List (host_calls.Call M)) → IsPassing (members_at state.chained c) (x ∷ xs) out asked → asked ≡ Process i (x ∷ xs) out ∷ []
      asked_is asked passing =
          let p : IsPassing (i ∷ []) (x ∷ xs) out asked = subst (λ is. IsPassing is (x ∷ xs) out asked) only passing in
          p.2 ∙ ap (λ given. Process i (x ∷ xs) given ∷ p.1) (sym p.3.0) ∙ ap (λ later. Process i (x ∷ xs) out ∷ later) p.3.1

      -- a block is passed to the member
      passes_on : (later : List (Call M)) (asked : List (host_calls.Call M)) (end : Channels M) → RunsOnHost kinds state (Feed c (x ∷ xs) out ∷ later) asked end
          → (rest : List (host_calls.Call M)) × RunsOnHost kinds (fed_with (x ∷ xs)) later rest end × (asked ≡ Process i (x ∷ xs) out ∷ rest)
      passes_on later asked end ran = (
        ran.2,
        subst (λ s. RunsOnHost kinds s later ran.2 end) (fed_state ran.0 ran.3) ran.5,
        ran.6 ∙ ap (λ few. few ++ ran.2) (asked_is ran.1 ran.4),
      )

    -- ---- a channel whose input is followed, and has enough samples, is fed the first of them
    module _ (known : ℕ → List ℤ) (n : ℕ) (x : ℤ) (xs rest : List ℤ) (follows : followed c ≡ true) (has : known c ≡ (x ∷ xs) ++ rest) (so_many : length (x ∷ xs) ≡ n) where
      abbrev left_then : ℕ → List ℤ
      left_then d = if d == c then rest else known d

      -- the block is the first samples, and the others are left
      parts : (left : Left) → left c ≡ known c → (take n (left c) ≡ x ∷ xs) × (drop n (left c) ≡ rest)
      parts left k = (
        ap (take n) (k ∙ has) ∙ ap (λ m. take m ((x ∷ xs) ++ rest)) (sym so_many) ∙ take-append_seam (x ∷ xs) rest,
        ap (drop n) (k ∙ has) ∙ ap (λ m. drop m ((x ∷ xs) ++ rest)) (sym so_many) ∙ drop-append_seam (x ∷ xs) rest,
      )

      not_short : {X : Type 0} (left : Left) → left c ≡ known c → length (left c) < n → X
      not_short left k few =
          let long : length (left c) ≡ length ((x ∷ xs) ++ rest) = ap (λ ys. length ys) (k ∙ has) in
          let both : length ((x ∷ xs) ++ rest) ≡ length (x ∷ xs) + length rest = length-append (x ∷ xs) rest in
          absurd (omega (arith, few, long, both, so_many))

      module _ (P : List (Call M) → List (host_calls.Call M) → Type 0) (lines : List (List ℕ))
          (go : (out : List ℤ) → Holds lines left_then (fed_with (x ∷ xs)) (λ made asked. P (Ready c (Ok tt) ∷ Feed c (x ∷ xs) out ∷ made) (Process i (x ∷ xs) out ∷ asked)))
          (left after : Left) (made : List (Call M)) (asked : List (host_calls.Call M)) (end : Channels M) (k : (d : ℕ) → followed d ≡ true → left d ≡ known d)
          (between : Left) (first later : List (Call M)) (on : LinesMake honest named lines between later after) (joined : made ≡ first ++ later)
          (r : RunsOnHost kinds state made asked end) where
        is_fed : IsFed honest c n left first between → P made asked
        is_fed f =
            let its = parts left (k c follows) in
            let is : made ≡ Ready c (Ok tt) ∷ Feed c (x ∷ xs) f.1 ∷ later =
            joined ∙ ap (λ calls. calls ++ later) (f.5 ∙ ap (λ block. Ready c (Ok tt) ∷ Feed c block f.1 ∷ []) (sym (f.3 (are c follows)) ∙ its.0)) in
            let gone = passes_on x xs f.1 later asked end (goes_on (Feed c (x ∷ xs) f.1 ∷ later) made asked end is r) in
            let others : (d : ℕ) → followed d ≡ true → between d ≡ left_then d =
            λ d follow. f.4 d (are d follow) ∙ ap (λ ys. if d == c then ys else left d) its.1 ∙ ap (λ ys. if d == c then rest else ys) (k d follow) in
            subst (λ calls. P calls asked) (sym is) (subst (λ all. P (Ready c (Ok tt) ∷ Feed c (x ∷ xs) f.1 ∷ later) all) (sym gone.2)
            ((go f.1).always between after later gone.0 end others on gone.1))

        by_three : CommandMakes honest (script.Feed c n) left first between → P made asked
        by_three (inl refused) = not_refused refused.0 later made asked end (joined ∙ ap (λ calls. calls ++ later) refused.1) r
        by_three (inr (inl short)) = not_short left (k c follows) (short.0 (are c follows))
        by_three (inr (inr f)) = is_fed f

      pub fed : {line : List ℕ} {lines : List (List ℕ)} {P : List (Call M) → List (host_calls.Call M) → Type 0}
          → nat_le (length line) LINE_OCTETS ≡ true
          → ((left after : Left) (made : List (Call M)) → LineMakes honest (parsed named line) left made after → CommandMakes honest (script.Feed c n) left made after)
          → ((out : List ℤ) → Holds lines left_then (fed_with (x ∷ xs)) (λ made asked. P (Ready c (Ok tt) ∷ Feed c (x ∷ xs) out ∷ made) (Process i (x ∷ xs) out ∷ asked)))
          → Holds (line ∷ lines) known state P
      fed {line = line} {lines = lines} {P = P} fits makes go = record {
        always = λ left after made asked end k m r. by_three P lines go left after made asked end k m.0 m.1 m.2 m.4 m.5 r (makes left m.0 m.1 (short_line line left m.0 m.1 fits m.3));
      }

    -- ---- a channel whose input isn't followed is fed one sample, whatever that is, or is short
    module _ (known : ℕ → List ℤ) (not_followed : followed c ≡ false) where
      -- the inputs that are followed are others
      are_others : (rest : List ℤ) (left between : Left) → ((d : ℕ) → followed d ≡ true → left d ≡ known d) → IsSameBut honest c rest left between
          → (d : ℕ) → followed d ≡ true → between d ≡ known d
      are_others rest left between k others d follow =
          either (eqb_tells d c)
          (λ same. absurd (false≢true (sym not_followed ∙ ap followed (sym same.1) ∙ follow)))
          (λ apart. others d (are d follow) ∙ ap (λ b. if b then rest else left d) apart.0 ∙ k d follow)

      module _ (P : List (Call M) → List (host_calls.Call M) → Type 0) (lines : List (List ℕ))
          (go_short : Holds lines known state (λ made asked. P (Ready c (Ok tt) ∷ made) asked))
          (go : (x : ℤ) (out : List ℤ) → Holds lines known (fed_with (x ∷ [])) (λ made asked. P (Ready c (Ok tt) ∷ Feed c (x ∷ []) out ∷ made) (Process i (x ∷ []) out ∷ asked)))
          (left after : Left) (made : List (Call M)) (asked : List (host_calls.Call M)) (end : Channels M) (k : (d : ℕ) → followed d ≡ true → left d ≡ known d)
          (between : Left) (first later : List (Call M)) (on : LinesMake honest named lines between later after) (joined : made ≡ first ++ later)
          (r : RunsOnHost kinds state made asked end) where
        is_short : IsShort honest c 1 left first between → P made asked
        is_short short =
            let is : made ≡ Ready c (Ok tt) ∷ later = joined ∙ ap (λ calls. calls ++ later) short.2 in
            subst (λ calls. P calls asked) (sym is)
            (go_short.always between after later asked end (are_others [] left between k short.1) on (goes_on later made asked end is r))

        is_one : (block out : List ℤ) → length block ≡ 1 → ((d : ℕ) → followed d ≡ true → between d ≡ known d) → first ≡ Ready c (Ok tt) ∷ Feed c block out ∷ [] → P made asked
        is_one [] out e others calls = absurd (omega (arith, e))
        is_one (x ∷ y ∷ xs) out e others calls = absurd (omega (arith, e))
        is_one (x ∷ []) out e others calls =
            let is : made ≡ Ready c (Ok tt) ∷ Feed c (x ∷ []) out ∷ later = joined ∙ ap (λ few. few ++ later) calls in
            let gone = passes_on x [] out later asked end (goes_on (Feed c (x ∷ []) out ∷ later) made asked end is r) in
            subst (λ few. P few asked) (sym is) (subst (λ all. P (Ready c (Ok tt) ∷ Feed c (x ∷ []) out ∷ later) all) (sym gone.2)
            ((go x out).always between after later gone.0 end others on gone.1))

        by_any : CommandMakes honest (script.Feed c 1) left first between → P made asked
        by_any (inl refused) = not_refused refused.0 later made asked end (joined ∙ ap (λ calls. calls ++ later) refused.1) r
        by_any (inr (inl short)) = is_short short
        by_any (inr (inr f)) = is_one f.0 f.1 f.2 (are_others (drop 1 (left c)) left between k f.4) f.5

      pub fed_any : {line : List ℕ} {lines : List (List ℕ)} {P : List (Call M) → List (host_calls.Call M) → Type 0}
          → nat_le (length line) LINE_OCTETS ≡ true
          → ((left after : Left) (made : List (Call M)) → LineMakes honest (parsed named line) left made after → CommandMakes honest (script.Feed c 1) left made after)
          → Holds lines known state (λ made asked. P (Ready c (Ok tt) ∷ made) asked)
          → ((x : ℤ) (out : List ℤ) → Holds lines known (fed_with (x ∷ [])) (λ made asked. P (Ready c (Ok tt) ∷ Feed c (x ∷ []) out ∷ made) (Process i (x ∷ []) out ∷ asked)))
          → Holds (line ∷ lines) known state P
      fed_any {line = line} {lines = lines} {P = P} fits makes go_short go = record {
        always = λ left after made asked end k m r. by_any P lines go_short go left after made asked end k m.0 m.1 m.2 m.4 m.5 r (makes left m.0 m.1 (short_line line left m.0 m.1 fits m.3));
      }
