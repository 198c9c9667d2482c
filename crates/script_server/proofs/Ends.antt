-- How a script goes on, and how it ends.
use Rattle.std.proofs.Common.{◌≡◌, ◌⊎◌, inl, inr, ℕ, ◌+◌, ◌≤◌, Bool, true, false, List, [], ◌∷◌, ◌++◌, length, refl, sym, subst, ap, ◌∙◌, append_assoc, length-append, arith, if◌then◌else◌}
use Rattle.std.specs.List.{All, flat_map}
use Rattle.std.proofs.lemmas.List.{append-nil}
use Rattle.std.proofs.lemmas.List.Elements.{All-push}
use Rattle.octet_ports.specs.Ports.{Source, Sink, Gives, GivesWithin}
use Rattle.octet_ports.specs.declared.reader.TheConstants.{BUFFER_OCTETS}
use Rattle.octet_ports.specs.Lines.{LineCame, LineFails, behind, ending}
use Rattle.octet_ports.specs.declared.reader.LineFault.{LineFault}
use Rattle.octet_ports.specs.declared.reader.LineFault.TheVariants.{Port, Limit}
use Rattle.octet_ports.proofs.Ports.{gives_more}
use Rattle.octet_ports.specs.Lines.{ended, IsNoFeed}
use Rattle.voice_script.specs.Served.{Machine, Run, LineAnswer, order_of}
use Rattle.voice_script.specs.Computed.{then_answer}
use Rattle.script_server.specs.Runs.{Devices, IsHonest, HasFailedIn, GoesOn, honest_at, ServedAll, ServedFirst, ServedUpTo, InScript, AtLimit, InFeed, Writes, run_of}
use Rattle.script_server.specs.LineRuns.{IsServed, IsCut, IsUnfed}
use Rattle.script_server.proofs.SoFar.{Consumes, ServedSoFar}
use Rattle.voice_script.specs.declared.limits.TheConstants.{LINE_OCTETS}
use Rattle.script_server.specs.declared.limits.TheConstants.{SCRIPT_OCTETS}
use Rattle.script_server.proofs.Writes.{writes_more, order_of-append}
use Rattle.script_server.proofs.Scripts.{push_answer, last_answer, answer_there, refusals-append, ended_more, next_line, last_line, last_line_of, ended_lines_of}

-- what a script gave before what is ahead of its lines, and that too
pub gives_ahead : (octets ahead : List ℕ) (a b : Source) → Gives octets a (behind ahead b) → Gives (octets ++ ahead) a b
gives_ahead octets ahead a b g = record { stays = g.stays; given = λ honest. g.given honest ∙ sym (append_assoc octets ahead b.coming) }

module _ {S : Type 0} (m : Machine S) (start : Run S) where
  pub served_more : {honest : ℕ → Bool} {keeps new_keeps : S → Type 0} {refused new_refused left new_left : ℕ} {is_refused : Bool} {script a b : Source} {sources new_sources : List Source}
      {outputs mid_outputs new_outputs : List Sink} {replies mid_replies new_replies : Sink} {text : List ℕ} {long : Bool}
      → (served : ServedSoFar m keeps honest start refused left script a sources outputs mid_outputs replies mid_replies)
      → (came : LineCame LINE_OCTETS text long false left new_left a b)
      → IsServed new_keeps honest (LineAnswer m honest (run_of served.answer.run.state sources) came.octets) is_refused new_sources mid_outputs new_outputs mid_replies new_replies
      → new_refused ≡ refused + (if is_refused then 1 else 0)
      → ServedSoFar m new_keeps honest start new_refused new_left script b new_sources outputs new_outputs replies new_replies
  served_more {honest = honest} {new_keeps = new_keeps} {left = left} {new_left = new_left} {sources = sources} served came line count =
      let lines = served.lines in
      let octets = came.octets in
      record {
        lines = lines ++ octets ∷ [];
        no_feeds = All-push (λ line. All IsNoFeed line) lines octets served.no_feeds came.line.no_feed;
        gives = rw (ended_more lines octets) (gives_more served.gives came.gives);
        used =
            let u : SCRIPT_OCTETS ≡ length (flat_map ended lines) + left = served.used in
            let v : left ≡ length (octets ++ 10 ∷ []) + new_left = came.used in
            let l : length (flat_map ended lines ++ (octets ++ 10 ∷ [])) ≡ length (flat_map ended lines) + length (octets ++ 10 ∷ []) = length-append (flat_map ended lines) (octets ++ 10 ∷ []) in
            rw (ended_more lines octets) (omega arith);
        answer = then_answer served.answer.written line.answer;
        is_answer = push_answer m honest lines start served.answer served.is_answer (answer_there m honest served.answer sources served.inputs line.is_answer);
        kept = line.kept;
        still = line.still;
        inputs = line.inputs;
        writes = rw (order_of-append served.answer.written line.answer.written) (writes_more served.writes line.writes);
        counted = rw (refusals-append served.answer.written line.answer.written, served.counted, line.counted) (sym count);
      }

  pub served_all : {keeps new_keeps : S → Type 0} {refused new_refused left new_left : ℕ} {is_refused : Bool} {a : Source} {sources : List Source}
      {mid_outputs : List Sink} {mid_replies : Sink} {text : List ℕ} {long : Bool} (old new : Devices)
      → IsHonest old.script
      → (served : ServedSoFar m keeps (honest_at old.inputs) start refused left old.script a sources old.outputs mid_outputs old.replies mid_replies)
      → (came : LineCame LINE_OCTETS text long true left new_left a new.script)
      → IsServed new_keeps (honest_at old.inputs) (LineAnswer m (honest_at old.inputs) (run_of served.answer.run.state sources) came.octets) is_refused new.inputs mid_outputs new.outputs mid_replies new.replies
      → new_refused ≡ refused + (if is_refused then 1 else 0)
      → ServedAll m start new_refused old new
  served_all {a = a} {sources = sources} old new h served came line count =
      let lines = served.lines in
      let octets = came.octets in
      let all = last_line lines octets old.script a new.script served.no_feeds came.line.no_feed h served.gives came.gives (came.at_end refl) in
      record {
        at_end = came.at_end refl (came.gives.stays (served.gives.stays h));
        answer = then_answer served.answer.written line.answer;
        is_answer = rw all (push_answer m (honest_at old.inputs) lines start served.answer served.is_answer (answer_there m (honest_at old.inputs) served.answer sources served.inputs line.is_answer));
        inputs = line.inputs;
        writes = rw (order_of-append served.answer.written line.answer.written) (writes_more served.writes line.writes);
        counted = rw (refusals-append served.answer.written line.answer.written, served.counted, line.counted) (sym count);
      }

  pub script_cut : {keeps : S → Type 0} {refused left new_left : ℕ} {a b : Source} {sources : List Source}
      {mid_outputs : List Sink} {mid_replies : Sink} {text : List ℕ} {long last : Bool} (old new : Devices)
      → IsHonest old.script
      → (served : ServedSoFar m keeps (honest_at old.inputs) start refused left old.script a sources old.outputs mid_outputs old.replies mid_replies)
      → (came : LineCame LINE_OCTETS text long last left new_left a b)
      → IsCut (LineAnswer m (honest_at old.inputs) (run_of served.answer.run.state sources) came.octets) new.inputs mid_outputs new.outputs mid_replies new.replies
      → ServedFirst m start old new
  script_cut {a = a} {b = b} {sources = sources} {last = last} old new h served came cut =
      let lines = served.lines in
      let octets = came.octets in
      let next = next_line lines octets last old.script a b served.no_feeds came.line.no_feed h served.gives came.gives came.at_end in
      record {
        whole = lines;
        last = octets;
        more = next.0;
        are_first = next.1;
        answer = served.answer;
        is_answer = served.is_answer;
        cut = cut.answer;
        is_cut = answer_there m (honest_at old.inputs) served.answer sources served.inputs cut.is_answer;
        inputs = cut.inputs;
        first = cut.writes.first;
        later = cut.writes.later;
        is_first = cut.writes.is_first;
        writes = writes_more served.writes cut.writes.writes;
      }

  pub stops_in_script : {keeps : S → Type 0} {refused left : ℕ} {a : Source} (old new : Devices)
      → ServedSoFar m keeps (honest_at old.inputs) start refused left old.script a new.inputs old.outputs new.outputs old.replies new.replies
      → (fault : LineFault) → LineFails fault left a new.script
      → ServedUpTo m start old new
  stops_in_script old new served Port f = record {
    lines = served.lines;
    no_feeds = served.no_feeds;
    are_ended = λ rest n. ended_lines_of served.lines rest served.no_feeds n;
    answer = served.answer;
    is_answer = served.is_answer;
    sources = new.inputs;
    inputs = served.inputs;
    stops = InScript f.1.0 f.1.1.no_feed (gives_more served.gives f.1.1.gives) f.0 refl;
    writes = served.writes;
  }
  stops_in_script {left = left} old new served Limit f =
      let lines = served.lines in
      let rest : List ℕ = f.1.0 in
      let u : SCRIPT_OCTETS ≡ length (flat_map ended lines) + left = served.used in
      let v : left ≡ length rest = f.1.4 in
      let l : length (flat_map ended lines ++ rest) ≡ length (flat_map ended lines) + length rest = length-append (flat_map ended lines) rest in
      record {
        lines = lines;
        no_feeds = served.no_feeds;
        are_ended = λ after n. ended_lines_of lines after served.no_feeds n;
        answer = served.answer;
        is_answer = served.is_answer;
        sources = new.inputs;
        inputs = served.inputs;
        stops = AtLimit rest f.1.1 f.1.2 (omega arith) (rw (append_assoc (flat_map ended lines) rest (f.1.1 ∷ [])) (gives_more served.gives f.1.3)) refl;
        writes = served.writes;
      }

  pub stops_in_feed : {keeps : S → Type 0} {refused left new_left : ℕ} {a : Source} {sources : List Source}
      {mid_outputs : List Sink} {mid_replies : Sink} {text : List ℕ} {long last : Bool} (old new : Devices) (ahead : List ℕ)
      → (served : ServedSoFar m keeps (honest_at old.inputs) start refused left old.script a sources old.outputs mid_outputs old.replies mid_replies)
      → (came : LineCame LINE_OCTETS text long last left new_left a (behind ahead new.script))
      → (last ≡ true → ahead ≡ []) → length ahead ≤ BUFFER_OCTETS
      → IsUnfed m served.answer.run.state came.octets sources new.inputs mid_outputs new.outputs mid_replies new.replies
      → ServedUpTo m start old new
  stops_in_feed {sources = sources} {last = last} old new ahead served came none few unfed = record {
    lines = served.lines;
    no_feeds = served.no_feeds;
    are_ended = λ rest n. ended_lines_of served.lines rest served.no_feeds n;
    answer = served.answer;
    is_answer = served.is_answer;
    sources = sources;
    inputs = served.inputs;
    stops = InFeed came.octets last ahead unfed.channel unfed.count unfed.after came.line.no_feed unfed.fits unfed.asks
        (gives_ahead (flat_map ended served.lines ++ (came.octets ++ ending last)) ahead old.script new.script (gives_more served.gives came.gives))
        few
        (λ e. (none e, λ honest. subst (λ xs. xs ++ new.script.coming ≡ []) (none e) (came.at_end e honest)))
        unfed.input;
    writes = rw (append-nil (order_of served.answer.written)) at (writes_more served.writes unfed.writes);
  }

  -- ---- the end of a run

  -- what is passed on at the end changes nothing of what is held
  pub all_passed_on : {refused : ℕ} {old mid : Devices} {outputs : List Sink} {replies : Sink} → ServedAll m start refused old mid
      → Writes [] mid.outputs outputs mid.replies replies → ServedAll m start refused old (record mid { outputs = outputs; replies = replies })
  all_passed_on {old = old} all none = record {
    at_end = all.at_end;
    answer = all.answer;
    is_answer = all.is_answer;
    inputs = all.inputs;
    writes = rw (append-nil (order_of all.answer.written)) at (writes_more all.writes none);
    counted = all.counted;
  }

  pub all_is_first : {refused : ℕ} {old new : Devices} → ServedAll m start refused old new → ServedFirst m start old new
  all_is_first {old = old} all =
      let split = last_line_of old.script.coming in
      let parts = last_answer m (honest_at old.inputs) split.0 start (rw split.2 at all.is_answer) in
      record {
        whole = split.0;
        last = split.1;
        more = [];
        are_first = split.2;
        answer = parts.0;
        is_answer = parts.1;
        cut = parts.2;
        is_cut = parts.3;
        inputs = rw parts.4 at all.inputs;
        first = order_of parts.2.written;
        later = [];
        is_first = sym (append-nil (order_of parts.2.written));
        writes = rw (parts.4, order_of-append parts.0.written parts.2.written) at all.writes;
      }

-- ---- how much of a script is read

pub consumes_within : {left : ℕ} {script : Source} (ahead : List ℕ) (new_script : Source) → Consumes left script (behind ahead new_script) → length ahead ≤ left
    → GivesWithin (SCRIPT_OCTETS + 1) script new_script
consumes_within {left = left} {script = script} ahead new_script c few = record {
  octets = c.octets ++ ahead;
  few =
      let u : SCRIPT_OCTETS ≡ length c.octets + left = c.used in
      let l : length (c.octets ++ ahead) ≡ length c.octets + length ahead = length-append c.octets ahead in
      omega arith;
  gives = gives_ahead c.octets ahead script new_script c.gives;
}

pub consumes_then : {left : ℕ} {script a b : Source} (fault : LineFault) → Consumes left script a → LineFails fault left a b → GivesWithin (SCRIPT_OCTETS + 1) script b
consumes_then {left = left} Port c f =
    let octets : List ℕ = f.1.0 in
    let few : length octets ≤ left = f.1.1.few in
    let u : SCRIPT_OCTETS ≡ length c.octets + left = c.used in
    let l : length (c.octets ++ octets) ≡ length c.octets + length octets = length-append c.octets octets in
    record { octets = c.octets ++ octets; few = omega arith; gives = gives_more c.gives f.1.1.gives }
consumes_then {left = left} Limit c f =
    let rest : List ℕ = f.1.0 in
    let next : ℕ = f.1.1 in
    let v : left ≡ length rest = f.1.4 in
    let u : SCRIPT_OCTETS ≡ length c.octets + left = c.used in
    let l : length (c.octets ++ (rest ++ next ∷ [])) ≡ length c.octets + length (rest ++ next ∷ []) = length-append c.octets (rest ++ next ∷ []) in
    let k : length (rest ++ next ∷ []) ≡ length rest + 1 = length-append rest (next ∷ []) in
    record { octets = c.octets ++ (rest ++ next ∷ []); few = omega arith; gives = gives_more c.gives f.1.3 }

-- why no line came
pub why_failed : {P : Type 0} {left : ℕ} {script a : Source} (b : Source) (fault : LineFault) → Consumes left script a → LineFails fault left a b → HasFailedIn b ⊎ (P ⊎ GoesOn script)
why_failed b Port c f = inl f.0
why_failed {left = left} {script = script} {a = a} b Limit c f = inr (inr (λ honest.
    let rest : List ℕ = f.1.0 in
    let next : ℕ = f.1.1 in
    let v : left ≡ length rest = f.1.4 in
    let u : SCRIPT_OCTETS ≡ length c.octets + left = c.used in
    let came : script.coming ≡ c.octets ++ a.coming = c.gives.given honest in
    let comes : a.coming ≡ (rest ++ next ∷ []) ++ b.coming = f.1.3.given (c.gives.stays honest) in
    let l : length script.coming ≡ length c.octets + length a.coming = ap length came ∙ length-append c.octets a.coming in
    let k : length a.coming ≡ length (rest ++ next ∷ []) + length b.coming = ap length comes ∙ length-append (rest ++ next ∷ []) b.coming in
    let n : length (rest ++ next ∷ []) ≡ length rest + 1 = length-append rest (next ∷ []) in
    omega arith))
