use Rattle.std.proofs.Common.{◌≡◌, ap, sym, ◌∙◌, ◌++◌, rules, to_z, of_z}
use Rattle.std.proofs.lemmas.Int.{to_z-of_z}
use mir.Val.{SFits}
use mir.Syntax.{w16}
use Rattle.ialg.specs.History.{with_samples, word_at, outputs_by}
use Rattle.ialg.specs.Loans.{lent_words}
use Rattle.ialg.proofs.Histories.{IsWordHistory-with_samples}
use Rattle.ialg.proofs.Tables.{lent_size}
use Rattle.test_doubles.specs.declared.TheConstants.{SLICER_KIND}
use Rattle.test_doubles.specs.Slicer.{slicer_records, slicer_gives}
use Rattle.test_doubles.proofs.Levels.{goes_on, high_named, low_named, outputs-with_samples}
use Rattle.test_doubles.proofs.slicer.SlicerIalg.process.Goals as goal

pub returns-clause-law : goal.returns-clause-law
returns-clause-law c p w l lawful closed lent keeps =
    let h = l.history in
    let m = c.args.mem.now in
    let xs = c.args.input.now in
    let object = keeps.levels.object in
    let sizes = lent_size m.table.now slicer_records object.on_table (lent_words m) lent in
    let low = c.level-low.ensures SLICER_KIND slicer_records (word_at p 0) (low_named m object (sizes 2)) keeps.low in
    let high = c.level-high.ensures SLICER_KIND slicer_records (word_at p 1) (high_named m object (sizes 3)) keeps.high in
    let low_fits : SFits w16 c.level-low.result = search rules in
    let high_fits : SFits w16 c.level-high.result = search rules in
    let low_is : to_z w16 (of_z w16 c.level-low.result) ≡ word_at p 0 = to_z-of_z w16 c.level-low.result low_fits ∙ low in
    let high_is : to_z w16 (of_z w16 c.level-high.result) ≡ word_at p 1 = to_z-of_z w16 c.level-high.result high_fits ∙ high in
    let words = IsWordHistory-with_samples h xs keeps.levels.history c.slice.ensures.read in
    let given = rw (low_is, high_is) at c.slice.ensures.given in (
      record { levels = goes_on p m.table.now (lent_words m) h (with_samples h xs) words keeps.levels; low = keeps.low; high = keeps.high },
      outputs-with_samples p h xs ∙ ap (λ ys. outputs_by (slicer_gives p) h ++ ys) (sym given),
    )
