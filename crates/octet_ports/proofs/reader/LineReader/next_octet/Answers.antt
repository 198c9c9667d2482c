use Rattle.std.proofs.Common.{Ok, true, is_ok, ap, refl, sym, ◌∙◌, arith}
use Rattle.std.proofs.lemmas.Bool.{eqb-true, false≢true}
use Rattle.std.proofs.lemmas.List.{nil_from_length}
use Rattle.std.proofs.lemmas.Option.{none-some}
use Rattle.octet_ports.proofs.Ahead.{came_ahead, came_refilled, none_ahead, ok_same}
use Rattle.octet_ports.proofs.reader.LineReader.next_octet.Goals as goal
use Rattle.octet_ports.proofs.reader.LineReader.next_octet.Goals.{then-is_empty+in-Ok-true, else-is_empty}

pub returns-in-Err : goal.returns-in-Err
returns-in-Err g c =
    let refused = c.in-Err.ensures.err in
    record {
      some = tt;
      none = λ bad. absurd (false≢true (ap is_ok bad));
      err = refused;
      within = rw refused.none (omega arith);
      few = rw refused.none (omega arith);
      waits = λ some. absurd (none_ahead refused.before some);
      ready = λ bad. absurd (false≢true bad);
    }

pub returns-in-Ok-false : goal.returns-in-Ok-false
returns-in-Ok-false g c =
    let end = c.in-Ok-false.ensures.end (ap Ok c.in-Ok-false.field-0-test) in
    record {
      some = tt;
      none = λ _. end;
      err = tt;
      within = rw end.none (omega arith);
      few = rw end.none (omega arith);
      waits = λ some. absurd (none_ahead end.before some);
      ready = λ _. c.in-Ok-false.ensures.ready (refl {a = true});
    }

pub returns : goal.returns
returns g c =
    let took = c.take_one.ensures in
    elim c.if-is_empty.branch [
      | then-is_empty+in-Ok-true w ↦
          let none = nil_from_length c.args.self.now.octets (eqb-true _ 0 (sym c.is_empty.ensures ∙ w.if-is_empty.true)) in
          let filled = w.in-Ok-true.ensures in
          record {
            some = rw w.script-is (came_refilled none (filled.some (ap Ok w.in-Ok-true.field-0-test)).1 filled.left (rw w.self-is at took.front) (rw w.self-is at took.left));
            none = λ bad. absurd (none-some _ (sym (ok_same bad)));
            err = tt;
            within = took.within;
            few = took.few;
            waits = λ some. absurd (none_ahead none some);
            ready = λ _. rw w.script-is (filled.ready (refl {a = true}));
          }
      | else-is_empty w ↦ record {
        some = rw w.script-is (came_ahead (rw w.self-is at took.front) (rw w.self-is at took.left));
        none = λ bad. absurd (none-some _ (sym (ok_same bad)));
        err = tt;
        within = took.within;
        few = took.few;
        waits = λ _. w.script-is;
        ready = λ _. rw w.script-is c.requires.ready;
      }
    ]
