use Rattle.std.proofs.Common.{ap, arith}
use Rattle.ialg.specs.Loans.{lent_words}
use Rattle.test_doubles.proofs.Levels.{without_scratch, active_by, moved}
use Rattle.test_doubles.proofs.slicer.SlicerIalg.alg_moved.Goals as goal

pub returns-clause-active : goal.returns-clause-active
returns-clause-active c p w l before lawful same table closed lent keeps =
    let h = l.history in
    let others = c.name_records.ensures.others in
    let levels = moved p before c.args.tab.now (lent_words c.args.mem.now) (lent_words c.name_records.new.self) h same keeps.levels
    (c.name_records.ensures.names keeps.levels.object.long) (ap (λ r. r.now) (others.others1 (λ e. omega arith))) in
    record {
      levels = levels;
      low = rw (ap (λ r. r.now) (others.others2 (λ e. omega arith))) keeps.low;
      high = rw (ap (λ r. r.now) (others.others3 (λ e. omega arith))) keeps.high;
    }

pub returns-clause-idle : goal.returns-clause-idle
returns-clause-idle c p w l before lawful same table closed lent keeps =
    let h = l.history in
    let tab = c.args.tab.now in
    let old = lent_words c.args.mem.now in
    let new = lent_words c.name_records.new.self in
    let was = active_by p before tab old h same keeps in
    without_scratch p tab new h (moved p before tab old new h same was (c.name_records.ensures.names was.object.long) (ap (λ r. r.now) (c.name_records.ensures.others.others1 (λ e. omega arith))))
