-- A feed's answer, by what came of its input.
use Rattle.std.proofs.Common.{◌≡◌, ◌≢◌, ℕ, ◌<◌, Bool, true, false, List, [], ◌∷◌, ◌++◌, map, length, take, slice_index_or, slice_set, refl, sym, ap, subst, ◌∙◌, arith, eqb}
use Rattle.std.proofs.Math.Seq.{take-append_seam}
use Rattle.std.proofs.lemmas.Bool.Decides.{nat_tests}
use Rattle.std.proofs.lemmas.List.{map-set, get_or-map, get_or-set_same, get_or-set_other, length-set}
use Rattle.octet_ports.specs.Ports.{Source, Sink, Gives, EndsWithin, Takes, TakesFirst}
use Rattle.ialg.specs.declared.refusal.Refusal.TheVariants.{Short}
use Rattle.voice_script.specs.Replies.{Count, No, reply_text}
use Rattle.voice_script.specs.Served.{Machine, Run, Answer, Output, Replied, FeedAnswer, refusals}
use Rattle.voice_script.specs.Computed.{replies}
use Rattle.script_server.specs.Runs.{StepsAt, IsHonest, no_source, no_sink, run_of}
use Rattle.script_server.specs.LineRuns.{AreHonest, IsServed, IsCut}
use Rattle.script_server.proofs.Writes.{writes_more, writes_reply, writes_output, step_holds, first_more, first_longer, first_reply, first_output, order_of_reply, order_of_feed, octets_to, short_text}

abbrev pub coming_of : Source → List ℕ
coming_of s = s.coming

pub left_at : (sources : List Source) (c : ℕ) → c < length sources → slice_index_or (map coming_of sources) c [] ≡ (slice_index_or sources c no_source).coming
left_at sources c there = get_or-map coming_of sources c no_source [] there

-- a step that leaves an honest input honest leaves all of them so
still_honest : (P : Source → Source → Type 0) {honest : ℕ → Bool} {c : ℕ} {sources new_sources : List Source} → ((x y : Source) → P x y → IsHonest x → IsHonest y)
    → c < length sources → AreHonest honest sources → StepsAt P c no_source sources new_sources → AreHonest honest new_sources
still_honest P {honest} {c} {sources} {new_sources} stays there h s d within is =
    let inside : d < length sources = subst (λ n. d < n) (ap (λ xs. length xs) s.others ∙ length-set sources c s.after) within in
    rw s.others (elim (eqb d c) as (λ t. eqb d c ≡ t → IsHonest (slice_index_or (slice_set sources c s.after) d no_source)) [
      | true ↦ λ e. (let same : d ≡ c = grind (arith, nat_tests) in
          rw (same, get_or-set_same sources c s.after no_source there) (stays (slice_index_or sources c no_source) s.after s.step (h c there (subst (λ k. honest k ≡ true) same is))))
      | false ↦ λ e. (let other : d ≢ c = grind (arith, nat_tests) in
          rw (get_or-set_other sources c d s.after no_source other) (h d inside is))
    ] refl)

pub honest_short : {honest : ℕ → Bool} {count c : ℕ} {sources new_sources : List Source} → c < length sources → AreHonest honest sources
    → StepsAt (EndsWithin count) c no_source sources new_sources → AreHonest honest new_sources
honest_short {count = count} there h s = still_honest (EndsWithin count) (λ x y ends. ends.gives.stays) there h s

pub honest_whole : {honest : ℕ → Bool} {octets : List ℕ} {c : ℕ} {sources new_sources : List Source} → c < length sources → AreHonest honest sources
    → StepsAt (Gives octets) c no_source sources new_sources → AreHonest honest new_sources
honest_whole {octets = octets} there h s = still_honest (Gives octets) (λ x y gives. gives.stays) there h s

-- what is left of the input is to come from the port
left_after : {P : Source → Source → Type 0} {c : ℕ} {sources new_sources : List Source} → (s : StepsAt P c no_source sources new_sources)
    → slice_set (map coming_of sources) c s.after.coming ≡ map coming_of new_sources
left_after {c = c} {sources = sources} s = sym (map-set coming_of sources c s.after) ∙ ap (map coming_of) (sym s.others)

pub feed_short : {S : Type 0} (m : Machine S) (honest : ℕ → Bool) (state : S) {count c : ℕ} {sources new_sources : List Source} → c < length sources → AreHonest honest sources
    → StepsAt (EndsWithin count) c no_source sources new_sources
    → FeedAnswer m honest (run_of state sources) c count (replies (run_of state new_sources) (No Short))
feed_short m honest state {count} {c} {sources} there h s = record {
  octets = s.step.octets;
  left = s.after.coming;
  first = λ is. left_at sources c there ∙ s.step.gives.given (h c there is);
  short = λ few. (λ is. s.step.at_end (s.step.gives.stays (h c there is)), ap (λ i. replies (record { state = state; inputs = i }) (No Short)) (sym (left_after s)));
  whole = λ enough. let few = s.step.few in absurd (omega arith);
}

-- what is given for the octets that stand first in a block is given for these octets
pub given_first : {S : Type 0} (m : Machine S) (state : S) {c count : ℕ} {octets output : List ℕ} {samples : ℕ} {after : S} (rest : List ℕ) → length octets ≡ count
    → m.Gives state c (take count (octets ++ rest)) output samples after → m.Gives state c octets output samples after
given_first m state {c} {count} {octets} {output} {samples} {after} rest l given =
    subst (λ first. m.Gives state c first output samples after) (ap (λ k. take k (octets ++ rest)) (sym l) ∙ take-append_seam octets rest) given

-- what a channel gave
abbrev pub gave : {S : Type 0} → Run S → ℕ → (output : List ℕ) → (samples : ℕ) → Answer S
gave run channel output samples = record { run = run; written = Output channel output ∷ Replied (Count samples) ∷ [] }

pub feed_whole : {S : Type 0} (m : Machine S) (honest : ℕ → Bool) (state : S) {after : S} {octets output : List ℕ} {samples : ℕ} {count c : ℕ} {sources new_sources : List Source} → c < length sources → AreHonest honest sources
    → length octets ≡ count → StepsAt (Gives octets) c no_source sources new_sources
    → m.Gives state c octets output samples after
    → FeedAnswer m honest (run_of state sources) c count (gave (run_of after new_sources) c output samples)
feed_whole m honest state {after} {octets} {output} {samples} {count} {c} {sources} there h l s given = record {
  octets = octets;
  left = s.after.coming;
  first = λ is. left_at sources c there ∙ s.step.given (h c there is);
  short = λ less. absurd (omega (arith, l, less));
  whole = λ _. (
    l,
    (output, samples, after, given, ap (λ i. gave (record { state = after; inputs = i }) c output samples) (sym (left_after s))),
  );
}

-- ---- what the ports took

module _ {S : Type 0} (m : Machine S) (honest : ℕ → Bool) (state : S) {count c : ℕ} {sources new_sources : List Source} where
  pub served_short : (keeps : S → Type 0) (outputs : List Sink) {reply new_reply : Sink}
      → keeps state → c < length sources → AreHonest honest sources → StepsAt (EndsWithin count) c no_source sources new_sources → Takes short_text reply new_reply
      → IsServed keeps honest (FeedAnswer m honest (run_of state sources) c count) true new_sources outputs outputs reply new_reply
  unfolding refusals
  served_short keeps outputs k there h s t = record {
    answer = replies (run_of state new_sources) (No Short);
    is_answer = feed_short m honest state there h s;
    kept = k;
    still = honest_short there h s;
    inputs = refl;
    writes = rw (order_of_reply (No Short)) (writes_reply outputs t.holds);
    counted = refl;
  }

  pub cut_short : (outputs : List Sink) {reply new_reply : Sink}
      → c < length sources → AreHonest honest sources → StepsAt (EndsWithin count) c no_source sources new_sources → TakesFirst short_text reply new_reply
      → IsCut (FeedAnswer m honest (run_of state sources) c count) new_sources outputs outputs reply new_reply
  cut_short outputs there h s t = record {
    answer = replies (run_of state new_sources) (No Short);
    is_answer = feed_short m honest state there h s;
    inputs = refl;
    writes = rw (order_of_reply (No Short)) (first_reply outputs t);
  }

  module _ {after : S} {octets output : List ℕ} {samples : ℕ} {outputs new_outputs : List Sink} where
    pub served_whole : (keeps : S → Type 0) {reply new_reply : Sink}
        → keeps after → c < length sources → length outputs ≡ length sources → AreHonest honest sources → length octets ≡ count
        → StepsAt (Gives octets) c no_source sources new_sources → m.Gives state c octets output samples after
        → StepsAt (Takes output) c no_sink outputs new_outputs → Takes (reply_text (Count samples)) reply new_reply
        → IsServed keeps honest (FeedAnswer m honest (run_of state sources) c count) false new_sources outputs new_outputs reply new_reply
    unfolding refusals
    served_whole keeps {reply} k there pairs h l s given o t = record {
      answer = gave (run_of after new_sources) c output samples;
      is_answer = feed_whole m honest state there h l s given;
      kept = k;
      still = honest_whole there h s;
      inputs = refl;
      writes = rw (order_of_feed c output (Count samples)) (writes_more (writes_output reply (rw pairs there) (step_holds o)) (writes_reply new_outputs t.holds));
      counted = refl;
    }

    pub cut_output : (reply : Sink)
        → c < length sources → length outputs ≡ length sources → AreHonest honest sources → length octets ≡ count
        → StepsAt (Gives octets) c no_source sources new_sources → m.Gives state c octets output samples after
        → StepsAt (TakesFirst output) c no_sink outputs new_outputs
        → IsCut (FeedAnswer m honest (run_of state sources) c count) new_sources outputs new_outputs reply reply
    cut_output reply there pairs h l s given o = record {
      answer = gave (run_of after new_sources) c output samples;
      is_answer = feed_whole m honest state there h l s given;
      inputs = refl;
      writes = rw (order_of_feed c output (Count samples)) (first_longer (octets_to _ (reply_text (Count samples))) (first_output reply (rw pairs there) o));
    }

    pub cut_told : {reply new_reply : Sink}
        → c < length sources → length outputs ≡ length sources → AreHonest honest sources → length octets ≡ count
        → StepsAt (Gives octets) c no_source sources new_sources → m.Gives state c octets output samples after
        → StepsAt (Takes output) c no_sink outputs new_outputs → TakesFirst (reply_text (Count samples)) reply new_reply
        → IsCut (FeedAnswer m honest (run_of state sources) c count) new_sources outputs new_outputs reply new_reply
    cut_told {reply} there pairs h l s given o t = record {
      answer = gave (run_of after new_sources) c output samples;
      is_answer = feed_whole m honest state there h l s given;
      inputs = refl;
      writes = rw (order_of_feed c output (Count samples)) (first_more (writes_output reply (rw pairs there) (step_holds o)) (first_reply new_outputs t));
    }
