use Rattle.std.proofs.Common.{List, ℕ, ap, sym, subst, ◌∙◌}
use Rattle.script_server.specs.Runs.{Writes, honest_at, octets_to_come}
use Rattle.voice_script.specs.Script.{lines_of}
use Rattle.voice_script.specs.Served.{LinesAnswer, Written, order_of, refusals}
use Rattle.console_spec.specs.Console.{console_machine, start}
use Rattle.dsp_console.proofs.laws.headline.Goals as goal

pub returns-clause-ok : goal.returns-clause-ok
returns-clause-ok g c = λ widths sizes poison refused old new script ends.
    let all = ends.serves.served script in
    record {
      serves = all;
      says = c.headline.ensures.run g.M.Ialg.law.meaning g.M.Named.named widths sizes poison (lines_of old.script.coming) (octets_to_come old.inputs) (honest_at old.inputs) all.answer all.is_answer;
    }

pub returns-clause-read : goal.returns-clause-read
returns-clause-read g c = λ widths sizes poison old new ends.
    let all = ends.served in
    c.headline.ensures.run g.M.Ialg.law.meaning g.M.Named.named widths sizes poison all.lines (octets_to_come old.inputs) (honest_at old.inputs) all.answer all.is_answer

pub returns-clause-sounds : goal.returns-clause-sounds
returns-clause-sounds g c = λ widths sizes poison refused old new run.
    let kinds = g.M.Ialg.law.meaning in
    let named = g.M.Named.named in
    let s = c.answers_have_sounds.ensures kinds named widths sizes poison (lines_of old.script.coming) (octets_to_come old.inputs) (honest_at old.inputs) run.serves.answer run.serves.is_answer in
    record {
      at_end = run.serves.at_end;
      answer = s.answer;
      is_answer = s.may;
      inputs = s.leaves ∙ run.serves.inputs;
      writes = subst (λ (w : List Written). Writes (order_of w) old.outputs new.outputs old.replies new.replies) (sym s.writes) run.serves.writes;
      counted = ap refusals s.writes ∙ run.serves.counted;
    }

pub returns-clause-first : goal.returns-clause-first
returns-clause-first g c = λ widths sizes poison refused old new run first more same.
    c.headline.ensures.first g.M.Ialg.law.meaning g.M.Named.named widths sizes poison first more (octets_to_come old.inputs) (honest_at old.inputs) run.serves.answer
    (subst (λ (lines : List (List ℕ)). LinesAnswer (console_machine g.M.Ialg.law.meaning g.M.Named.named widths) (honest_at old.inputs) (start sizes poison (octets_to_come old.inputs)) lines run.serves.answer) same run.serves.is_answer)

pub returns-clause-two : goal.returns-clause-two
returns-clause-two g c = c.headline.ensures.two g.M.Ialg.law.meaning g.M.Named.named
