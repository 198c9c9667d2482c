use Rattle.ialg.specs.Loans.{lent_words}
use Rattle.ialg.proofs.Tables.{lent_size}
use Rattle.test_doubles.specs.declared.TheConstants.{SLICER_KIND}
use Rattle.test_doubles.specs.Slicer.{slicer_records}
use Rattle.test_doubles.proofs.Levels.{levels_named}
use Rattle.test_doubles.proofs.slicer.kept_levels.Goals as goal

pub returns-in-None : goal.returns-in-None
returns-in-None c p h lent keeps =
    let m = c.args.mem.now in
    let sizes = lent_size m.table.now slicer_records keeps.object.on_table (lent_words m) lent in
    absurd (c.in-None.ensures.named SLICER_KIND slicer_records (levels_named m keeps.object (sizes 1)))
