-- What a feed's answer is where its input is honest; and a machine that does no more than a computed one answers as that one does.
use Rattle.std.proofs.Common.{◌≡◌, ◌≤◌, ◌<◌, ◌+◌, ℕ, Bool, List, [], ◌∷◌, ◌++◌, length, take, drop, true, cond, ap, refl, sym, ◌∙◌, subst, ⊎_elim, length-append}
use Rattle.std.specs.Prelude.{nat_lt}
use Rattle.std.proofs.Common.{arith}
use Rattle.std.proofs.Math.Seq.{drop-append_seam, take-append_seam}
use Rattle.std.proofs.lemmas.Bool.{cases_Bool}
use Rattle.std.proofs.lemmas.Grind.{common_steps}
use Rattle.ialg.specs.declared.refusal.Refusal.TheVariants.{Long, Short}
use Rattle.voice_script.specs.declared.limits.TheConstants.{LINE_OCTETS}
use Rattle.voice_script.specs.Replies.{Count}
use Rattle.voice_script.specs.Served.{Asked, Nothing, Tell, Feed, Machine, Run, Answer, Output, Replied, refuses, with_left, FedAnswer, FeedAnswer, AskedAnswer, ServedAnswer, LineAnswer, LinesAnswer}
use Rattle.voice_script.specs.Computed.{Computed, IsComputed, replies, at_state, octets_left, then_answer, after_reading, machine_of, fed_answer, feed_answer, asked_answer, line_answer, lines_answer}

-- ---- a feed whose input is honest

drop_few : (count : ℕ) (xs : List ℕ) → length xs < count → drop count xs ≡ []
drop_few count xs h = grind (arith, common_steps)

take_parts : (count : ℕ) (xs ys zs : List ℕ) → xs ≡ ys ++ zs → length ys ≡ count → take count xs ≡ ys
take_parts count xs ys zs e l = ap (take count) e ∙ ap (λ k. take k (ys ++ zs)) (sym l) ∙ take-append_seam ys zs

drop_parts : (count : ℕ) (xs ys zs : List ℕ) → xs ≡ ys ++ zs → length ys ≡ count → drop count xs ≡ zs
drop_parts count xs ys zs e l = ap (drop count) e ∙ ap (λ k. drop k (ys ++ zs)) (sym l) ∙ drop-append_seam ys zs

module _ {S : Type 0} (machine : Machine S) (honest : ℕ → Bool) (run : Run S) (channel count : ℕ) (answer : Answer S)
    (is_honest : honest channel ≡ true) (a : FeedAnswer machine honest run channel count answer) where
  parts_length : length (octets_left run channel) ≡ length a.octets + length a.left
  parts_length = ap (λ xs. length xs) (a.first is_honest) ∙ length-append a.octets a.left

  pub exactly_short : length (octets_left run channel) < count → answer ≡ refuses (after_reading run channel count) Short
  exactly_short few =
      let s = a.short (omega (arith, few, parts_length)) in
      s.1 ∙ ap (λ left. refuses (with_left run channel left) Short) (s.0 is_honest ∙ sym (drop_few count (octets_left run channel) few))

  -- a feed that isn't short gets all that it asks for
  all_came : count ≤ length (octets_left run channel) → count ≤ length a.octets
  all_came enough =
      ⊎_elim
      (λ short.
      let less : length a.octets < count = grind (arith, short) in
      let none : length a.left ≡ 0 = ap (λ xs. length xs) ((a.short less).0 is_honest) in
      absurd (omega (arith, less, none, parts_length, enough)))
      (λ whole. grind (arith, whole))
      (cases_Bool (nat_lt (length a.octets) count))

  pub exactly_whole : count ≤ length (octets_left run channel) → FedAnswer machine (after_reading run channel count) channel (take count (octets_left run channel)) answer
  exactly_whole enough =
      let w = a.whole (all_came enough) in
      subst (λ octets. FedAnswer machine (after_reading run channel count) channel octets answer) (sym (take_parts count (octets_left run channel) a.octets a.left (a.first is_honest) w.0))
      (subst (λ left. FedAnswer machine (with_left run channel left) channel a.octets answer) (sym (drop_parts count (octets_left run channel) a.octets a.left (a.first is_honest) w.0)) w.1)

-- ---- computed machines

-- a run and an answer, with the state that stands for theirs
module _ {S T : Type 0} (standing : T → S) where
  abbrev pub standing_run : Run T → Run S
  standing_run run = record { state = standing run.state; inputs = run.inputs }

  abbrev pub standing_answer : Answer T → Answer S
  standing_answer answer = record { run = standing_run answer.run; written = answer.written }

module _ {S T : Type 0} (machine : Machine S) (computed : Computed T) (standing : T → S) (is : IsComputed machine computed standing) (honest : ℕ → Bool) where
  abbrev shown : Answer T → Answer S
  shown answer = standing_answer standing answer

  abbrev at : Run T → Run S
  at run = standing_run standing run

  -- what a channel gave
  abbrev gave : Run S → ℕ → (output : List ℕ) → (samples : ℕ) → Answer S
  gave run channel output samples = record { run = run; written = Output channel output ∷ Replied (Count samples) ∷ [] }

  fed : (run : Run T) (channel : ℕ) (octets : List ℕ) (answer : Answer S) → FedAnswer machine (at run) channel octets answer
      → answer ≡ shown (fed_answer computed run channel octets)
  fed run channel octets answer a =
      let e = is.gives run.state channel octets a.0 a.1 a.2 a.3 in
      a.4
      ∙ ap (λ o. gave (at_state (at run) a.2) channel o a.1) e.0
      ∙ ap (λ t. gave (at_state (at run) a.2) channel (computed.output run.state channel octets) t) e.1
      ∙ ap (λ s. gave (at_state (at run) s) channel (computed.output run.state channel octets) (computed.samples run.state channel octets)) e.2

  -- ---- what is answered is an answer of the machine that does it and nothing else

  abbrev own : Machine T
  own = machine_of computed

  -- such an answer, with the state that stands for its own
  abbrev pub Stands : (Answer T → Type 0) → Answer S → Type 0
  Stands MayAnswer answer = (its : Answer T) × MayAnswer its × (answer ≡ shown its)

  own_fed : (run : Run T) (channel : ℕ) (octets : List ℕ) → FedAnswer own run channel octets (fed_answer computed run channel octets)
  own_fed run channel octets =
      (computed.output run.state channel octets, computed.samples run.state channel octets, computed.fed run.state channel octets, (refl, refl, refl), refl)

  feed_stands : (run : Run T) (channel count : ℕ) (answer : Answer S) → FeedAnswer machine honest (at run) channel count answer
      → Stands (FeedAnswer own honest run channel count) answer
  feed_stands run channel count answer a =
      ⊎_elim
      (λ short.
      let less : length a.octets < count = grind (arith, short) in
      let s = a.short less in (
        refuses (with_left run channel a.left) Short,
        record { octets = a.octets; left = a.left; first = a.first; short = λ _. (s.0, refl); whole = λ enough. absurd (omega (arith, less, enough)) },
        s.1,
      ))
      (λ whole.
      let enough : count ≤ length a.octets = grind (arith, whole) in
      let w = a.whole enough in (
        fed_answer computed (with_left run channel a.left) channel a.octets,
        record {
          octets = a.octets;
          left = a.left;
          first = a.first;
          short = λ less. absurd (omega (arith, less, enough));
          whole = λ _. (w.0, own_fed (with_left run channel a.left) channel a.octets);
        },
        fed (with_left run channel a.left) channel a.octets answer w.1,
      ))
      (cases_Bool (nat_lt (length a.octets) count))

  asked_stands : (run : Run T) (asked : Asked) (answer : Answer S) → AskedAnswer machine honest (at run) asked answer → Stands (AskedAnswer own honest run asked) answer
  asked_stands run Nothing answer a = (record { run = run; written = [] }, refl, a)
  asked_stands run (Tell reply) answer a = (replies run reply, refl, a)
  asked_stands run (Feed channel count) answer a = feed_stands run channel count answer a

  served_stands : (run : Run T) (line : List ℕ) (answer : Answer S) → ServedAnswer machine honest (at run) line answer → Stands (ServedAnswer own honest run line) answer
  served_stands run line answer a =
      let e = is.asks run.state line a.0 a.1 a.2 in
      let stands = asked_stands (at_state run (computed.after run.state line)) (computed.asked run.state line) answer
      (subst (λ s. AskedAnswer machine honest (at_state (at run) s) (computed.asked run.state line) answer) e.1
      (subst (λ x. AskedAnswer machine honest (at_state (at run) a.1) x answer) e.0 a.3)) in (
        stands.0,
        (computed.asked run.state line, computed.after run.state line, (refl, refl), stands.1),
        stands.2,
      )

  pub line_stands : (run : Run T) (line : List ℕ) (answer : Answer S) → LineAnswer machine honest (at run) line answer → Stands (LineAnswer own honest run line) answer
  line_stands run line answer a =
      ⊎_elim
      (λ long.
      let longer : LINE_OCTETS < length line = grind (arith, long) in
      (refuses run Long, record { long = λ _. refl; fits = λ fit. absurd (omega (arith, longer, fit)) }, a.long longer))
      (λ fits.
      let fit : length line ≤ LINE_OCTETS = grind (arith, fits) in
      let stands = served_stands run line answer (a.fits fit) in
      (stands.0, record { long = λ longer. absurd (omega (arith, longer, fit)); fits = λ _. stands.1 }, stands.2))
      (cases_Bool (nat_lt LINE_OCTETS (length line)))

  pub lines_stand : (lines : List (List ℕ)) (run : Run T) (answer : Answer S) → LinesAnswer machine honest (at run) lines answer → Stands (LinesAnswer own honest run lines) answer
  lines_stand [] run answer a = (record { run = run; written = [] }, refl, a)
  lines_stand (line ∷ lines) run answer a =
      let one = line_stands run line a.0 a.1 in
      let rest = lines_stand lines one.0.run a.2 (subst (λ r. LinesAnswer machine honest r lines a.2) (ap (λ o. o.run) one.2) a.3) in (
        then_answer one.0.written rest.0,
        (one.0, one.1, rest.0, rest.1, refl),
        a.4 ∙ ap (λ o. then_answer o.written a.2) one.2 ∙ ap (λ o. then_answer one.0.written o) rest.2,
      )

  -- ---- where all inputs are honest there is one answer

  module _ (all_honest : (channel : ℕ) → honest channel ≡ true) where
    feed : (run : Run T) (channel count : ℕ) (answer : Answer S) → FeedAnswer machine honest (at run) channel count answer
        → answer ≡ shown (feed_answer computed run channel count)
    feed run channel count answer a =
        ⊎_elim
        (λ short. exactly_short machine honest (at run) channel count answer (all_honest channel) a (grind (arith, short))
        ∙ ap (λ b. shown (cond b (refuses (after_reading run channel count) Short) (fed_answer computed (after_reading run channel count) channel (take count (octets_left run channel))))) (sym short))
        (λ whole. fed (after_reading run channel count) channel (take count (octets_left run channel)) answer (exactly_whole machine honest (at run) channel count answer (all_honest channel) a (grind (arith, whole)))
        ∙ ap (λ b. shown (cond b (refuses (after_reading run channel count) Short) (fed_answer computed (after_reading run channel count) channel (take count (octets_left run channel))))) (sym whole))
        (cases_Bool (nat_lt (length (octets_left run channel)) count))

    asked_is : (run : Run T) (asked : Asked) (answer : Answer S) → AskedAnswer machine honest (at run) asked answer → answer ≡ shown (asked_answer computed run asked)
    asked_is run Nothing answer a = a
    asked_is run (Tell reply) answer a = a
    asked_is run (Feed channel count) answer a = feed run channel count answer a

    served : (run : Run T) (line : List ℕ) (answer : Answer S) → ServedAnswer machine honest (at run) line answer
        → answer ≡ shown (asked_answer computed (at_state run (computed.after run.state line)) (computed.asked run.state line))
    served run line answer a =
        let e = is.asks run.state line a.0 a.1 a.2 in
        asked_is (at_state run (computed.after run.state line)) (computed.asked run.state line) answer
        (subst (λ s. AskedAnswer machine honest (at_state (at run) s) (computed.asked run.state line) answer) e.1
        (subst (λ x. AskedAnswer machine honest (at_state (at run) a.1) x answer) e.0 a.3))

    abbrev asked : Run T → List ℕ → Answer T
    asked run line = asked_answer computed (at_state run (computed.after run.state line)) (computed.asked run.state line)

    line_is : (run : Run T) (line : List ℕ) (answer : Answer S) → LineAnswer machine honest (at run) line answer → answer ≡ shown (line_answer computed run line)
    unfolding line_answer
    line_is run line answer a =
        ⊎_elim
        (λ long. a.long (grind (arith, long)) ∙ ap (λ b. shown (cond b (refuses run Long) (asked run line))) (sym long))
        (λ fits. served run line answer (a.fits (grind (arith, fits))) ∙ ap (λ b. shown (cond b (refuses run Long) (asked run line))) (sym fits))
        (cases_Bool (nat_lt LINE_OCTETS (length line)))

    pub lines_are : (lines : List (List ℕ)) (run : Run T) (answer : Answer S) → LinesAnswer machine honest (at run) lines answer
        → answer ≡ shown (lines_answer computed run lines)
    unfolding lines_answer
    lines_are [] run answer a = a
    lines_are (line ∷ lines) run answer a =
        let one = line_is run line a.0 a.1 in
        let rest = lines_are lines (line_answer computed run line).run a.2 (subst (λ r. LinesAnswer machine honest r lines a.2) (ap (λ o. o.run) one) a.3) in
        a.4 ∙ ap (λ o. then_answer o.written a.2) one ∙ ap (λ o. then_answer (line_answer computed run line).written o) rest
