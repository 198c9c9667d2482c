-- A line's answer, by what the machine asks.
use Rattle.std.specs.Prelude.{if◌then◌else◌}
use Rattle.std.proofs.Common.{◌≡◌, ◌+◌, ℕ, cond, ◌<◌, ◌≤◌, Bool, true, false, List, [], length, nat_lt, refl, sym, subst, arith}
use Rattle.std.proofs.lemmas.Bool.Decides.{nat_tests}
use Rattle.octet_ports.specs.Ports.{Source, Sink, Takes, TakesFirst}
use Rattle.octet_ports.specs.Lines.{IsLine}
use Rattle.ialg.specs.declared.refusal.Refusal.TheVariants.{Long}
use Rattle.voice_script.specs.Replies.{Reply, No, reply_text}
use Rattle.voice_script.specs.Served.{Machine, Run, Answer, Asked, Nothing, Tell, Feed, Replied, AskedAnswer, LineAnswer, is_refused, order_of, refusals}
use Rattle.voice_script.specs.Computed.{replies, at_state}
use Rattle.script_server.specs.Runs.{FailsWithin, StepsAt, Writes, no_source, run_of}
use Rattle.script_server.specs.LineRuns.{AreHonest, IsServed, IsCut, IsUnfed}
use Rattle.voice_script.specs.declared.limits.TheConstants.{LINE_OCTETS}
use Rattle.script_server.proofs.Writes.{writes_none, writes_reply, first_reply, order_of_reply, long_text}

pub is_long : {text octets : List ℕ} → IsLine LINE_OCTETS text true octets → LINE_OCTETS < length octets
is_long {octets = octets} line = let test : nat_lt LINE_OCTETS (length octets) ≡ true = sym line.is_long in grind (arith, nat_tests)

pub is_short : {text octets : List ℕ} → IsLine LINE_OCTETS text false octets → length octets ≤ LINE_OCTETS
is_short {octets = octets} line = let test : nat_lt LINE_OCTETS (length octets) ≡ false = sym line.is_long in grind (arith, nat_tests)

counted_one : (refused : Bool) → 0 + cond refused 1 0 ≡ (if refused then 1 else 0)
counted_one true = refl
counted_one false = refl

module _ {S : Type 0} (m : Machine S) where
  -- the input of a feed failed
  pub unfed : (state : S) {text octets : List ℕ} {channel count : ℕ} {after : S} {sources new_sources : List Source} {outputs new_outputs : List Sink} {reply new_reply : Sink}
      → IsLine LINE_OCTETS text false octets → m.Asks state text (Feed channel count) after
      → StepsAt (FailsWithin count) channel no_source sources new_sources → Writes [] outputs new_outputs reply new_reply
      → IsUnfed m state octets sources new_sources outputs new_outputs reply new_reply
  unfed state {channel = channel} {count = count} {after = after} line asks input writes = record {
    fits = is_short line;
    channel = channel;
    count = count;
    after = after;
    asks = subst (λ (o : List ℕ). m.Asks state o (Feed channel count) after) (line.is_text refl) asks;
    input = input;
    writes = writes;
  }

module _ {S : Type 0} (m : Machine S) (honest : ℕ → Bool) where
  pub line_long : (run : Run S) {text octets : List ℕ} → IsLine LINE_OCTETS text true octets → LineAnswer m honest run octets (replies run (No Long))
  line_long run line = let long = is_long line in record { long = λ _. refl; fits = λ fits. absurd (omega arith) }

  pub line_asks : (run : Run S) {text octets : List ℕ} {asked : Asked} {after : S} {answer : Answer S} → IsLine LINE_OCTETS text false octets
      → m.Asks run.state text asked after → AskedAnswer m honest (at_state run after) asked answer → LineAnswer m honest run octets answer
  line_asks run {asked = asked} {after = after} line asks answered =
      let short = is_short line in
      record {
        long = λ long. absurd (omega arith);
        fits = λ _. (asked, after, subst (λ (o : List ℕ). m.Asks run.state o asked after) (line.is_text refl) asks, answered);
      }

  -- ---- what is asked

  pub served_reply : (keeps : S → Type 0) (state : S) (sources : List Source) (reply_told : Reply) (outputs : List Sink) {reply new_reply : Sink}
      → keeps state → AreHonest honest sources → Takes (reply_text reply_told) reply new_reply
      → IsServed keeps honest (AskedAnswer m honest (run_of state sources) (Tell reply_told)) (is_refused (Replied reply_told)) sources outputs outputs reply new_reply
  unfolding refusals
  served_reply keeps state sources reply_told outputs k h t = record {
    answer = replies (run_of state sources) reply_told;
    is_answer = refl;
    kept = k;
    still = h;
    inputs = refl;
    writes = rw (order_of_reply reply_told) (writes_reply outputs t.holds);
    counted = counted_one (is_refused (Replied reply_told));
  }

  pub served_nothing : (keeps : S → Type 0) (state : S) (sources : List Source) (outputs : List Sink) (reply : Sink) → keeps state → AreHonest honest sources
      → IsServed keeps honest (AskedAnswer m honest (run_of state sources) Nothing) false sources outputs outputs reply reply
  unfolding refusals order_of
  served_nothing keeps state sources outputs reply k h = record {
    answer = record { run = run_of state sources; written = [] };
    is_answer = refl;
    kept = k;
    still = h;
    inputs = refl;
    writes = writes_none outputs reply;
    counted = refl;
  }

  pub cut_reply : (state : S) (sources : List Source) (reply_told : Reply) (outputs : List Sink) {reply new_reply : Sink} → TakesFirst (reply_text reply_told) reply new_reply
      → IsCut (AskedAnswer m honest (run_of state sources) (Tell reply_told)) sources outputs outputs reply new_reply
  cut_reply state sources reply_told outputs t = record {
    answer = replies (run_of state sources) reply_told;
    is_answer = refl;
    inputs = refl;
    writes = rw (order_of_reply reply_told) (first_reply outputs t);
  }

  -- ---- by the line

  pub served_long : (keeps : S → Type 0) (state : S) (sources : List Source) {line octets : List ℕ} (outputs : List Sink) {reply new_reply : Sink}
      → IsLine LINE_OCTETS line true octets → keeps state → AreHonest honest sources → Takes long_text reply new_reply
      → IsServed keeps honest (LineAnswer m honest (run_of state sources) octets) true sources outputs outputs reply new_reply
  served_long keeps state sources outputs line k h t =
      let told = served_reply keeps state sources (No Long) outputs k h t in
      record {
        answer = told.answer;
        is_answer = rw told.is_answer (line_long (run_of state sources) line);
        kept = told.kept;
        still = told.still;
        inputs = told.inputs;
        writes = told.writes;
        counted = told.counted;
      }

  pub cut_long : (state : S) (sources : List Source) {line octets : List ℕ} (outputs : List Sink) {reply new_reply : Sink}
      → IsLine LINE_OCTETS line true octets → TakesFirst long_text reply new_reply
      → IsCut (LineAnswer m honest (run_of state sources) octets) sources outputs outputs reply new_reply
  cut_long state sources outputs line t =
      let told = cut_reply state sources (No Long) outputs t in
      record { answer = told.answer; is_answer = rw told.is_answer (line_long (run_of state sources) line); inputs = told.inputs; writes = told.writes }

  pub served_asked : (keeps : S → Type 0) (state : S) (sources : List Source) {line octets : List ℕ} {asked : Asked} {after : S} {refused : Bool} {new_sources : List Source}
      {outputs new_outputs : List Sink} {reply new_reply : Sink}
      → IsLine LINE_OCTETS line false octets → m.Asks state line asked after
      → IsServed keeps honest (AskedAnswer m honest (run_of after sources) asked) refused new_sources outputs new_outputs reply new_reply
      → IsServed keeps honest (LineAnswer m honest (run_of state sources) octets) refused new_sources outputs new_outputs reply new_reply
  served_asked keeps state sources line asks s = record {
    answer = s.answer;
    is_answer = line_asks (run_of state sources) line asks s.is_answer;
    kept = s.kept;
    still = s.still;
    inputs = s.inputs;
    writes = s.writes;
    counted = s.counted;
  }

  pub cut_asked : (state : S) (sources : List Source) {line octets : List ℕ} {asked : Asked} {after : S} {new_sources : List Source} {outputs new_outputs : List Sink} {reply new_reply : Sink}
      → IsLine LINE_OCTETS line false octets → m.Asks state line asked after
      → IsCut (AskedAnswer m honest (run_of after sources) asked) new_sources outputs new_outputs reply new_reply
      → IsCut (LineAnswer m honest (run_of state sources) octets) new_sources outputs new_outputs reply new_reply
  cut_asked state sources line asks s =
      record { answer = s.answer; is_answer = line_asks (run_of state sources) line asks s.is_answer; inputs = s.inputs; writes = s.writes }
