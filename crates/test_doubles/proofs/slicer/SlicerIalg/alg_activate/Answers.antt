use Rattle.std.proofs.Common.{◌≡◌, pos, length, ap, ◌∙◌, refl, rules, arith, to_z, of_z, slice_index_or}
use Rattle.std.proofs.lemmas.Int.{to_z-of_z}
use mir.Val.{SFits}
use mir.Syntax.{w16}
use Rattle.ialg.specs.History.{word_at}
use Rattle.ialg.specs.Loans.{lent_words}
use Rattle.ialg.proofs.Tables.{lent_size}
use Rattle.test_doubles.specs.declared.TheConstants.{SLICER_KIND}
use Rattle.test_doubles.specs.Slicer.{slicer_records, IsSpread}
use Rattle.test_doubles.proofs.Levels.{active_by, high_named, low_named, spread_over}
use Rattle.test_doubles.proofs.slicer.SlicerIalg.alg_activate.Goals as goal

pub returns-clause-law : goal.returns-clause-law
returns-clause-law c p w l lawful closed lent poison idle =
    let h = l.history in
    let m = c.args.mem.now in
    let between = c.spread_low.new.mem in
    let rs = m.table.now in
    let keeps = active_by p rs rs (lent_words m) h refl idle in
    let sizes = lent_size rs slicer_records keeps.object.on_table (lent_words m) lent in
    let levels = c.as_slice-levels.ensures.value ∙ c.kept_levels-levels.ensures p h lent keeps in
    let items = c.as_slice-levels.result.now in
    let low_fits : SFits w16 (slice_index_or items 0 (pos 0)) = search rules in
    let high_fits : SFits w16 (slice_index_or items 1 (pos 0)) = search rules in
    let low_is : to_z w16 (of_z w16 (slice_index_or items 0 (pos 0))) ≡ word_at p 0 = to_z-of_z w16 (slice_index_or items 0 (pos 0)) low_fits ∙ ap (λ ws. word_at ws 0) levels in
    let high_is : to_z w16 (of_z w16 (slice_index_or items 1 (pos 0))) ≡ word_at p 1 = to_z-of_z w16 (slice_index_or items 1 (pos 0)) high_fits ∙ ap (λ ws. word_at ws 1) levels in
    let low : IsSpread 2 (word_at p 0) (lent_words m) (lent_words between) =
    rw low_is at (c.spread_low.ensures.spread SLICER_KIND slicer_records (low_named m keeps.object (sizes 2)) refl) in
    let object = low.others 0 (λ e. omega arith) in
    let table = ap (λ b. b.now) c.spread_low.ensures.loans.table in
    let size = ap length (low.others 3 (λ e. omega arith)) ∙ sizes 3 in
    let named = high_named between (rw (table, object) keeps.object) size in
    let high : IsSpread 3 (word_at p 1) (lent_words between) (lent_words c.spread_high.new.mem) =
    rw high_is at (c.spread_high.ensures.spread SLICER_KIND slicer_records named refl) in
    spread_over p rs (lent_words m) (lent_words between) (lent_words c.spread_high.new.mem) h keeps low high

pub returns-then-levels-ne-LEVELS-clause-law : goal.returns-then-levels-ne-LEVELS-clause-law
returns-then-levels-ne-LEVELS-clause-law c p w l lawful closed lent poison idle =
    let h = l.history in
    let m = c.args.mem.now in
    let keeps = active_by p m.table.now m.table.now (lent_words m) h refl idle in
    let levels = ap length (c.as_slice-levels.ensures.value ∙ c.kept_levels-levels.ensures p h lent keeps) ∙ keeps.two in
    absurd (omega (arith, levels))
