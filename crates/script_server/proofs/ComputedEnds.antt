-- Where a machine does no more than a computed one, a run by it ended as it does by that one.
use Rattle.std.proofs.Common.{◌≡◌, ℕ, List, ◌++◌, ap, refl, subst, sym, ◌∙◌}
use Rattle.octet_ports.specs.Ports.{Source}
use Rattle.voice_script.specs.Script.{lines_of}
use Rattle.voice_script.specs.Served.{Machine, Run, Feed, LineAnswer, order_of, refusals}
use Rattle.voice_script.specs.Computed.{Computed, IsComputed, machine_of}
use Rattle.voice_script.proofs.ComputedLemmas.{standing_run, line_stands, lines_stand}
use Rattle.script_server.specs.Runs.{Devices, EndsByRead, EndsByWrite, EndsWell, ServedAll, ServedFirst, ServedUpTo, Stops, InScript, AtLimit, InFeed, Writes, honest_at}

module _ {S T : Type 0} (machine : Machine S) (computed : Computed T) (standing : T → S) (is : IsComputed machine computed standing) (start : Run T) where
  abbrev own : Machine T
  own = machine_of computed

  abbrev at : Run T → Run S
  at run = standing_run standing run

  served_first : (old new : Devices) → ServedFirst machine (at start) old new → ServedFirst own start old new
  served_first old new s =
      let all = lines_stand machine computed standing is (honest_at old.inputs) s.whole start s.answer s.is_answer in
      let cut = line_stands machine computed standing is (honest_at old.inputs) all.0.run s.last s.cut
      (subst (λ r. LineAnswer machine (honest_at old.inputs) r s.last s.cut) (ap (λ o. o.run) all.2) s.is_cut) in
      record {
        whole = s.whole;
        last = s.last;
        more = s.more;
        are_first = s.are_first;
        answer = all.0;
        is_answer = all.1;
        cut = cut.0;
        is_cut = cut.1;
        inputs = ap (λ o. o.run.inputs) (sym cut.2) ∙ s.inputs;
        first = s.first;
        later = s.later;
        is_first = ap (λ o. order_of o.written) (sym cut.2) ∙ s.is_first;
        writes = subst (λ o. Writes (order_of o.written ++ s.first) old.outputs new.outputs old.replies new.replies) all.2 s.writes;
      }

  stops : (script new_script : Source) (lines : List (List ℕ)) (state : T) (there : S) (sources new_sources : List Source) → there ≡ standing state
      → Stops machine (at start) script new_script lines there sources new_sources → Stops own start script new_script lines state sources new_sources
  stops script new_script lines state there sources new_sources same (InScript rest no_feeds gives failed stay) = InScript rest no_feeds gives failed stay
  stops script new_script lines state there sources new_sources same (AtLimit rest next no_feeds long gives stay) = AtLimit rest next no_feeds long gives stay
  stops script new_script lines state there sources new_sources same (InFeed line last ahead channel count after no_feeds fits asks gives few end steps) =
      let e = is.asks state line (Feed channel count) after (subst (λ s. machine.Asks s line (Feed channel count) after) same asks) in
      InFeed line last ahead channel count (computed.after state line) no_feeds fits (e.0, refl) gives few end steps

  served_up_to : (old new : Devices) → ServedUpTo machine (at start) old new → ServedUpTo own start old new
  served_up_to old new s =
      let all = lines_stand machine computed standing is (honest_at old.inputs) s.lines start s.answer s.is_answer in
      record {
        lines = s.lines;
        no_feeds = s.no_feeds;
        are_ended = s.are_ended;
        answer = all.0;
        is_answer = all.1;
        sources = s.sources;
        inputs = ap (λ o. o.run.inputs) (sym all.2) ∙ s.inputs;
        stops = stops old.script new.script s.lines all.0.run.state s.answer.run.state s.sources new.inputs (ap (λ o. o.run.state) all.2) s.stops;
        writes = subst (λ o. Writes (order_of o.written) old.outputs new.outputs old.replies new.replies) all.2 s.writes;
      }

  served_all : (refused : ℕ) (old new : Devices) → ServedAll machine (at start) refused old new → ServedAll own start refused old new
  served_all refused old new s =
      let all = lines_stand machine computed standing is (honest_at old.inputs) (lines_of old.script.coming) start s.answer s.is_answer in
      record {
        at_end = s.at_end;
        answer = all.0;
        is_answer = all.1;
        inputs = ap (λ o. o.run.inputs) (sym all.2) ∙ s.inputs;
        writes = subst (λ o. Writes (order_of o.written) old.outputs new.outputs old.replies new.replies) all.2 s.writes;
        counted = ap (λ o. refusals o.written) (sym all.2) ∙ s.counted;
      }

  pub well : (refused : ℕ) (old new : Devices) → EndsWell machine (at start) refused old new → EndsWell own start refused old new
  well refused old new ends = record {
    serves = record {
      script = ends.serves.script;
      ready = ends.serves.ready;
      served = λ script. served_all refused old new (ends.serves.served script);
    };
    outputs_passed = ends.outputs_passed;
    replies_passed = ends.replies_passed;
  }

  pub by_write : (old new : Devices) → EndsByWrite machine (at start) old new → EndsByWrite own start old new
  by_write old new ends = record {
    failed = ends.failed;
    passed = ends.passed;
    order = ends.order;
    served = λ script. served_first old new (ends.served script);
  }

  pub by_read : (old new : Devices) → EndsByRead machine (at start) old new → EndsByRead own start old new
  by_read old new ends = record { failed = ends.failed; passed = ends.passed; served = served_up_to old new ends.served }
