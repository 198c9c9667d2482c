-- Lines served one after another.
use Rattle.std.proofs.Common.{◌≡◌, ◌≢◌, ℕ, suc, slice_index_or, ◌+◌, ◌<◌, Bool, true, false, List, [], ◌∷◌, ◌++◌, map, length, refl, sym, subst, ap, ◌∙◌, append_assoc, length-append, arith, eqb}
use Rattle.std.specs.List.{All, flat_map}
use Rattle.std.proofs.lemmas.List.{append-nil}
use Rattle.std.proofs.lemmas.List.Elements.{All-nil, All-weaker}
use Rattle.std.proofs.lemmas.List.Splits.{slice_split_none, slice_split_at, length-slice_split}
use Rattle.std.proofs.lemmas.Grind.{common_steps}
use Rattle.std.proofs.lemmas.Bool.Decides.{nat_tests}
use Rattle.octet_ports.specs.Ports.{Source, Sink, Gives, IsAtEnd}
use Rattle.octet_ports.specs.Lines.{LineCame}
use Rattle.octet_ports.proofs.Ports.{gives_none, gives_more}
use Rattle.octet_ports.specs.Lines.{IsNoFeed, ending, ended}
use Rattle.voice_script.specs.Served.{Machine, Run, Answer, Written, LineAnswer, LinesAnswer, order_of, refusals, ended_lines}
use Rattle.voice_script.specs.Computed.{then_answer}
use Rattle.voice_script.specs.Script.{lines_of}
use Rattle.script_server.specs.Runs.{IsHonest, run_of}
use Rattle.script_server.specs.LineRuns.{AreHonest}
use Rattle.script_server.proofs.SoFar.{ServedSoFar, Consumes}
use Rattle.voice_script.specs.declared.limits.TheConstants.{LINE_OCTETS}
use Rattle.script_server.specs.declared.limits.TheConstants.{SCRIPT_OCTETS}
use Rattle.script_server.proofs.Writes.{writes_none}

-- ---- answers

module _ {S : Type 0} (m : Machine S) (honest : ℕ → Bool) where
  -- what answers lines, and then what answers one more
  pub push_answer : (lines : List (List ℕ)) (run : Run S) (answer : Answer S) {line : List ℕ} {last : Answer S} → LinesAnswer m honest run lines answer → LineAnswer m honest answer.run line last
      → LinesAnswer m honest run (lines ++ line ∷ []) (then_answer answer.written last)
  push_answer [] run answer {line} {last} is_answer is_last = (
    last,
    subst (λ (a : Answer S). LineAnswer m honest a.run line last) is_answer is_last,
    record { run = last.run; written = [] },
    refl,
    ap (λ (a : Answer S). then_answer a.written last) is_answer ∙ ap (λ w. record { run = last.run; written = w }) (sym (append-nil last.written)),
  )
  push_answer (first ∷ lines) run answer {line} {last} is_answer is_last =
      let begun : Answer S = is_answer.0 in
      let rest : Answer S = is_answer.2 in (
        begun,
        is_answer.1,
        then_answer rest.written last,
        push_answer lines begun.run rest is_answer.3 (subst (λ (a : Answer S). LineAnswer m honest a.run line last) is_answer.4 is_last),
        ap (λ (a : Answer S). then_answer a.written last) is_answer.4 ∙ ap (λ w. record { run = last.run; written = w }) (append_assoc begun.written rest.written last.written),
      )

  -- what answers the last of lines
  pub last_answer : (lines : List (List ℕ)) (run : Run S) {line : List ℕ} {all : Answer S} → LinesAnswer m honest run (lines ++ line ∷ []) all
      → (answer : Answer S) × LinesAnswer m honest run lines answer × (last : Answer S) × LineAnswer m honest answer.run line last × (all ≡ then_answer answer.written last)
  last_answer [] run is_answer =
      let last : Answer S = is_answer.0 in (
        record { run = run; written = [] },
        refl,
        last,
        is_answer.1,
        is_answer.4 ∙ ap (then_answer last.written) is_answer.3 ∙ ap (λ w. record { run = last.run; written = w }) (append-nil last.written),
      )
  last_answer (first ∷ lines) run is_answer =
      let begun : Answer S = is_answer.0 in
      let parts = last_answer lines begun.run is_answer.3 in (
        then_answer begun.written parts.0,
        (begun, is_answer.1, parts.0, parts.1, refl),
        parts.2,
        parts.3,
        is_answer.4 ∙ ap (then_answer begun.written) parts.4 ∙ ap (λ w. record { run = parts.2.run; written = w }) (sym (append_assoc begun.written parts.0.written parts.2.written)),
      )

  -- after an answer with these inputs left, a line is answered
  pub answer_there : (answer : Answer S) (sources : List Source) {line : List ℕ} {last : Answer S} → answer.run.inputs ≡ map (λ s. s.coming) sources
      → LineAnswer m honest (run_of answer.run.state sources) line last → LineAnswer m honest answer.run line last
  answer_there answer sources {line} {last} e is_last =
      subst (λ (r : Run S). LineAnswer m honest r line last) (ap (λ i. record { state = answer.run.state; inputs = i }) (sym e)) is_last

pub refusals-append : (xs ys : List Written) → refusals (xs ++ ys) ≡ refusals xs + refusals ys
unfolding refusals
refusals-append xs ys = grind (arith, common_steps)

-- ---- lines of a script

no_feed_test : (b : ℕ) → b ≢ 10 → eqb b 10 ≡ false
no_feed_test b n = grind (arith, nat_tests)

pub lines_of_first : (line rest : List ℕ) → All IsNoFeed line → lines_of (line ++ 10 ∷ rest) ≡ line ∷ lines_of rest
lines_of_first line rest n = slice_split_at (λ b. eqb b 10) line 10 rest (All-weaker IsNoFeed (λ b. eqb b 10 ≡ false) no_feed_test line n) refl

pub lines_of_last : (line : List ℕ) → All IsNoFeed line → lines_of line ≡ line ∷ []
lines_of_last line n = slice_split_none (λ b. eqb b 10) line (All-weaker IsNoFeed (λ b. eqb b 10 ≡ false) no_feed_test line n)

-- lines that line feeds ended, and what follows
pub lines_of_ended : (lines : List (List ℕ)) (rest : List ℕ) → ((k : ℕ) → k < length lines → All IsNoFeed (slice_index_or lines k [])) → lines_of (flat_map ended lines ++ rest) ≡ lines ++ lines_of rest
lines_of_ended [] rest n = refl
lines_of_ended (line ∷ lines) rest n =
    let shape : flat_map ended (line ∷ lines) ++ rest ≡ line ++ 10 ∷ (flat_map ended lines ++ rest) = grind (arith, common_steps) in
    ap lines_of shape ∙ lines_of_first line (flat_map ended lines ++ rest) (n 0 (omega arith))
    ∙ ap (λ r. line ∷ r) (lines_of_ended lines rest (λ k h. n (suc k) (omega arith)))

-- ---- a run's lines

pub served_none : {S : Type 0} (m : Machine S) (keeps : S → Type 0) (honest : ℕ → Bool) (state : S) (script : Source) (sources : List Source) (outputs : List Sink) (replies : Sink)
    → keeps state → AreHonest honest sources → ServedSoFar m keeps honest (run_of state sources) 0 SCRIPT_OCTETS script script sources outputs outputs replies replies
unfolding order_of refusals
served_none m keeps honest state script sources outputs replies k h = record {
  lines = [];
  no_feeds = All-nil (λ line. All IsNoFeed line);
  gives = gives_none script;
  used = refl;
  answer = record { run = run_of state sources; written = [] };
  is_answer = refl;
  kept = k;
  still = h;
  inputs = refl;
  writes = writes_none outputs replies;
  counted = refl;
}

pub consumes_more : {left new_left : ℕ} {script a b : Source} {text : List ℕ} {long last : Bool} → Consumes left script a → LineCame LINE_OCTETS text long last left new_left a b → Consumes new_left script b
consumes_more {left = left} {new_left = new_left} {last = last} c line = record {
  octets = c.octets ++ (line.octets ++ ending last);
  gives = gives_more c.gives line.gives;
  used =
      let u : SCRIPT_OCTETS ≡ length c.octets + left = c.used in
      let v : left ≡ length (line.octets ++ ending last) + new_left = line.used in
      let l : length (c.octets ++ (line.octets ++ ending last)) ≡ length c.octets + length (line.octets ++ ending last) = length-append c.octets (line.octets ++ ending last) in
      omega arith;
}

-- a script has a last line
pub last_of : {A : Type 0} (xs : List A) → 0 < length xs → (front : List A) × (last : A) × (xs ≡ front ++ last ∷ [])
last_of [] h = absurd (omega arith)
last_of (x ∷ []) h = ([], x, refl)
last_of (x ∷ y ∷ xs) h = let rest = last_of (y ∷ xs) (omega arith) in (x ∷ rest.0, rest.1, ap (λ r. x ∷ r) rest.2)

pub last_line_of : (script : List ℕ) → (front : List (List ℕ)) × (last : List ℕ) × (lines_of script ≡ front ++ last ∷ [])
last_line_of script = last_of (lines_of script) (omega (arith, length-slice_split (λ b. eqb b 10) script))

pub ended_more : (lines : List (List ℕ)) (octets : List ℕ) → flat_map ended (lines ++ octets ∷ []) ≡ flat_map ended lines ++ (octets ++ 10 ∷ [])
ended_more lines octets = grind (arith, common_steps)

pub lines_at : (lines : List (List ℕ)) → All (λ line. All IsNoFeed line) lines → (k : ℕ) → k < length lines → All IsNoFeed (slice_index_or lines k [])
lines_at lines n k h = n k [] h

-- the last line ends the script
pub last_coming : {xs : List ℕ} (octets : List ℕ) {script a b : Source} → IsHonest script → Gives xs script a → Gives (octets ++ []) a b → IsAtEnd b → script.coming ≡ xs ++ octets
last_coming {xs} octets {script} {a} {b} h g f e =
    let nothing : b.coming ≡ [] = e (f.stays (g.stays h)) in
    let whole : (octets ++ []) ++ b.coming ≡ octets = rw nothing (grind (arith, common_steps)) in
    g.given h ∙ ap (λ r. xs ++ r) (f.given (g.stays h) ∙ whole)

-- a line that was read is the next of the script's
pub next_line : (lines : List (List ℕ)) (octets : List ℕ) (last : Bool) (script a b : Source) → All (λ line. All IsNoFeed line) lines → All IsNoFeed octets → IsHonest script
    → Gives (flat_map ended lines) script a → Gives (octets ++ ending last) a b → (last ≡ true → IsAtEnd b) → (more : List (List ℕ)) × (lines_of script.coming ≡ lines ++ octets ∷ more)
next_line lines octets true script a b n o h g f e =
    let coming : script.coming ≡ flat_map ended lines ++ octets = last_coming octets h g f (e refl) in
    ([], ap lines_of coming ∙ lines_of_ended lines octets (lines_at lines n) ∙ ap (λ r. lines ++ r) (lines_of_last octets o))
next_line lines octets false script a b n o h g f e =
    let coming : script.coming ≡ flat_map ended lines ++ (octets ++ 10 ∷ b.coming) = g.given h ∙ ap (λ r. flat_map ended lines ++ r) (f.given (g.stays h) ∙ append_assoc octets (10 ∷ []) b.coming) in
    (lines_of b.coming, ap lines_of coming ∙ lines_of_ended lines (octets ++ 10 ∷ b.coming) (lines_at lines n) ∙ ap (λ r. lines ++ r) (lines_of_first octets b.coming o))

pub last_line : (lines : List (List ℕ)) (octets : List ℕ) (script a b : Source) → All (λ line. All IsNoFeed line) lines → All IsNoFeed octets → IsHonest script
    → Gives (flat_map ended lines) script a → Gives (octets ++ []) a b → IsAtEnd b → lines_of script.coming ≡ lines ++ octets ∷ []
last_line lines octets script a b n o h g f e =
    ap lines_of (last_coming octets h g f e) ∙ lines_of_ended lines octets (lines_at lines n) ∙ ap (λ r. lines ++ r) (lines_of_last octets o)

-- lines that line feeds ended, and less than a line: these are the lines that ended
pub ended_lines_of : (lines : List (List ℕ)) (rest : List ℕ) → All (λ line. All IsNoFeed line) lines → All IsNoFeed rest → ended_lines (flat_map ended lines ++ rest) ≡ lines
ended_lines_of lines rest n o =
    let e : lines_of (flat_map ended lines ++ rest) ≡ lines ++ rest ∷ [] = lines_of_ended lines rest (lines_at lines n) ∙ ap (λ r. lines ++ r) (lines_of_last rest o) in
    rw e (grind (arith, common_steps))
