-- A machine that follows another may serve what that one serves.
use Rattle.std.proofs.Common.{◌≡◌, ◌≤◌, ◌<◌, ℕ, Bool, List, [], ◌∷◌, ◌++◌, length, ap, refl, sym, ◌∙◌, subst, ⊎_elim, arith}
use Rattle.std.specs.Prelude.{nat_lt}
use Rattle.std.proofs.lemmas.Bool.{cases_Bool}
use Rattle.ialg.specs.declared.refusal.Refusal.TheVariants.{Long, Short}
use Rattle.voice_script.specs.declared.limits.TheConstants.{LINE_OCTETS}
use Rattle.voice_script.specs.Replies.{Count}
use Rattle.voice_script.specs.Served.{Asked, Nothing, Tell, Feed, Machine, Run, Answer, Output, Replied, refuses, with_left, FedAnswer, FeedAnswer, AskedAnswer, ServedAnswer, LineAnswer, LinesAnswer}
use Rattle.voice_script.specs.Computed.{replies, then_answer}

-- where states of one show those of the other, what the other does it may do too
pub record Follows {S T : Type 0} (machine : Machine S) (other : Machine T) (Shows : T → S → Type 0) : Type 0 where
  pub asks : (state : T) (before : S) (line : List ℕ) (asked : Asked) (after : S) → Shows state before → machine.Asks before line asked after
      → (next : T) × other.Asks state line asked next × Shows next after
  pub gives : (state : T) (before : S) (channel : ℕ) (octets output : List ℕ) (samples : ℕ) (after : S) → Shows state before
      → machine.Gives before channel octets output samples after
      → (next : T) × other.Gives state channel octets output samples next × Shows next after

-- it may answer the same
pub record Followed {S T : Type 0} (Shows : T → S → Type 0) (MayAnswer : Answer T → Type 0) (answer : Answer S) : Type 0 where
  pub its : Answer T
  pub may : MayAnswer its
  pub written : its.written ≡ answer.written
  pub inputs : its.run.inputs ≡ answer.run.inputs
  pub shows : Shows its.run.state answer.run.state

module _ {S T : Type 0} (machine : Machine S) (other : Machine T) (Shows : T → S → Type 0) (follows : Follows machine other Shows) (honest : ℕ → Bool) where
  abbrev pub at : T → Run S → Run T
  at state run = record { state = state; inputs = run.inputs }

  -- an answer that is known
  known : (MayAnswer : Answer T → Type 0) (its : Answer T) (answer is : Answer S) → answer ≡ is → MayAnswer its → its.written ≡ is.written → its.run.inputs ≡ is.run.inputs
      → Shows its.run.state is.run.state → Followed Shows MayAnswer answer
  known MayAnswer its answer is e may written inputs shows = record {
    its = its;
    may = may;
    written = written ∙ ap (λ b. b.written) (sym e);
    inputs = inputs ∙ ap (λ b. b.run.inputs) (sym e);
    shows = subst (λ (b : Answer S). Shows its.run.state b.run.state) (sym e) shows;
  }

  fed : (state : T) (run : Run S) (channel : ℕ) (octets : List ℕ) (answer : Answer S) → Shows state run.state → FedAnswer machine run channel octets answer
      → Followed Shows (FedAnswer other (at state run) channel octets) answer
  fed state run channel octets answer shows a =
      let g = follows.gives state run.state channel octets a.0 a.1 a.2 shows a.3 in
      known (FedAnswer other (at state run) channel octets)
      (record { run = at g.0 run; written = Output channel a.0 ∷ Replied (Count a.1) ∷ [] })
      answer _ a.4 (a.0, a.1, g.0, g.1, refl) refl refl g.2

  feed : (state : T) (run : Run S) (channel count : ℕ) (answer : Answer S) → Shows state run.state → FeedAnswer machine honest run channel count answer
      → Followed Shows (FeedAnswer other honest (at state run) channel count) answer
  feed state run channel count answer shows a =
      ⊎_elim
      (λ short.
      let less : length a.octets < count = grind (arith, short) in
      let s = a.short less in
      known (FeedAnswer other honest (at state run) channel count) (refuses (with_left (at state run) channel a.left) Short) answer _ s.1
      (record { octets = a.octets; left = a.left; first = a.first; short = λ _. (s.0, refl); whole = λ enough. absurd (omega (arith, less, enough)) })
      refl refl shows)
      (λ whole.
      let enough : count ≤ length a.octets = grind (arith, whole) in
      let w = a.whole enough in
      let f = fed state (with_left run channel a.left) channel a.octets answer shows w.1 in
      record {
        its = f.its;
        may = record { octets = a.octets; left = a.left; first = a.first; short = λ less. absurd (omega (arith, less, enough)); whole = λ _. (w.0, f.may) };
        written = f.written;
        inputs = f.inputs;
        shows = f.shows;
      })
      (cases_Bool (nat_lt (length a.octets) count))

  asked_so : (state : T) (run : Run S) (asked : Asked) (answer : Answer S) → Shows state run.state → AskedAnswer machine honest run asked answer
      → Followed Shows (AskedAnswer other honest (at state run) asked) answer
  asked_so state run Nothing answer shows a =
      known (AskedAnswer other honest (at state run) Nothing) (record { run = at state run; written = [] }) answer _ a refl refl refl shows
  asked_so state run (Tell reply) answer shows a =
      known (AskedAnswer other honest (at state run) (Tell reply)) (replies (at state run) reply) answer _ a refl refl refl shows
  asked_so state run (Feed channel count) answer shows a = feed state run channel count answer shows a

  served_so : (state : T) (run : Run S) (line : List ℕ) (answer : Answer S) → Shows state run.state → ServedAnswer machine honest run line answer
      → Followed Shows (ServedAnswer other honest (at state run) line) answer
  served_so state run line answer shows a =
      let e = follows.asks state run.state line a.0 a.1 shows a.2 in
      let f = asked_so e.0 (record run { state = a.1 }) a.0 answer e.2 a.3 in
      record { its = f.its; may = (a.0, e.0, e.1, f.may); written = f.written; inputs = f.inputs; shows = f.shows }

  pub line_so : (state : T) (run : Run S) (line : List ℕ) (answer : Answer S) → Shows state run.state → LineAnswer machine honest run line answer
      → Followed Shows (LineAnswer other honest (at state run) line) answer
  line_so state run line answer shows a =
      ⊎_elim
      (λ long.
      let longer : LINE_OCTETS < length line = grind (arith, long) in
      known (LineAnswer other honest (at state run) line) (refuses (at state run) Long) answer _ (a.long longer)
      (record { long = λ _. refl; fits = λ fit. absurd (omega (arith, longer, fit)) }) refl refl shows)
      (λ fits.
      let fit : length line ≤ LINE_OCTETS = grind (arith, fits) in
      let f = served_so state run line answer shows (a.fits fit) in
      record { its = f.its; may = record { long = λ longer. absurd (omega (arith, longer, fit)); fits = λ _. f.may }; written = f.written; inputs = f.inputs; shows = f.shows })
      (cases_Bool (nat_lt LINE_OCTETS (length line)))

  pub lines_so : (lines : List (List ℕ)) (state : T) (run : Run S) (answer : Answer S) → Shows state run.state → LinesAnswer machine honest run lines answer
      → Followed Shows (LinesAnswer other honest (at state run) lines) answer
  lines_so [] state run answer shows a =
      known (LinesAnswer other honest (at state run) []) (record { run = at state run; written = [] }) answer _ a refl refl refl shows
  lines_so (line ∷ lines) state run answer shows a =
      let one = line_so state run line a.0 shows a.1 in
      let more = lines_so lines one.its.run.state a.0.run a.2 one.shows a.3 in
      known (LinesAnswer other honest (at state run) (line ∷ lines)) (then_answer one.its.written more.its) answer _ a.4 (
        one.its,
        one.may,
        more.its,
        subst (λ (inputs : List (List ℕ)). LinesAnswer other honest (record { state = one.its.run.state; inputs = inputs }) lines more.its) (sym one.inputs) more.may,
        refl,
      )
      (ap (λ w. w ++ more.its.written) one.written ∙ ap (λ w. a.0.written ++ w) more.written) more.inputs more.shows
