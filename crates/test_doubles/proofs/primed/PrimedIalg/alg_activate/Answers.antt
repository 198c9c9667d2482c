use Rattle.ialg.specs.Loans.{lent_words}
use Rattle.ialg.specs.Records.{words_of}
use Rattle.ialg.proofs.Tables.{attr_of, lent_size}
use Rattle.test_doubles.specs.Primed.{primed_records}
use Rattle.test_doubles.proofs.Kept.{active, primed_word}
use Rattle.test_doubles.proofs.primed.PrimedIalg.alg_activate.Goals as goal

pub returns-clause-law : goal.returns-clause-law
returns-clause-law c p w l lawful closed lent poison keeps =
    let h = l.history in
    let m = c.args._mem.now in
    let on_table = keeps.object.on_table in
    record {
      idle = active p m.table.now (lent_words m) h keeps;
      scratch =
          primed_word p w (words_of (lent_words m) 3) lawful (lent_size m.table.now primed_records on_table (lent_words m) lent 3)
          (poison 3 (attr_of m.table.now primed_records on_table 3));
    }
