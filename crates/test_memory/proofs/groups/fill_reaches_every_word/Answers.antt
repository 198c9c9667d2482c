use Rattle.std.proofs.Common.{◌∙◌, sym}
use Rattle.mem_rec.specs.declared.Space.TheVariants.{Saram}
use Rattle.test_memory.proofs.GroupLemmas.{filled_span, still_whole}
use Rattle.test_memory.proofs.groups.fill_reaches_every_word.Goals as goal

pub close-requires-clause-region : goal.close-requires-clause-region
close-requires-clause-region g c =
    let whole = rw c.expect-region.ensures at c.make.ensures.whole in
    let same = filled_span _ _ c.replace.new.self.saram c.fill.new.self.saram c.expect-all.result c.replace.ensures.new (c.fill.ensures.blocks Saram) (sym c.remove.ensures.old ∙ c.expect-all.ensures) in
    (still_whole c.expect-region.result.1 c.expect-all.result c.expect-region.result.0 whole same).0

pub close-requires-clause-whole : goal.close-requires-clause-whole
close-requires-clause-whole g c =
    let whole = rw c.expect-region.ensures at c.make.ensures.whole in
    let same = filled_span _ _ c.replace.new.self.saram c.fill.new.self.saram c.expect-all.result c.replace.ensures.new (c.fill.ensures.blocks Saram) (sym c.remove.ensures.old ∙ c.expect-all.ensures) in
    (still_whole c.expect-region.result.1 c.expect-all.result c.expect-region.result.0 whole same).1
