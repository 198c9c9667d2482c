use Rattle.std.proofs.Common.{◌≡◌, length, Option, ap, ◌∙◌, arith}
use Rattle.space_raw.specs.Span.{Extent}
use Rattle.record_loans.specs.declared.pieces.Pieces.{Pieces}
use Rattle.record_loans.specs.declared.block.ScratchBlock.{ScratchBlock}
use Rattle.record_loans.specs.Blocks.{block_words}
use Rattle.record_loans.specs.Pieces.{piece_words}
use Rattle.test_memory.proofs.GroupLemmas.{one_has_words, one_gone}
use Rattle.test_memory.proofs.groups.records_are_lent_at_their_offsets.Goals as goal

pub lend-requires-clause-sizes : goal.lend-requires-clause-sizes
lend-requires-clause-sizes g c =
    let whole = c.memory-external.ensures.whole in
    let size = c.memory-external.ensures.size in
    let object : length c.memory-external.result.1.words ≡ 4 = whole.1.1 ∙ ap (λ (r : Extent). r.size) whole.0 ∙ size in
    let all = c.memory-daram.ensures.whole in
    let large = c.memory-daram.ensures.size in
    let block : length c.memory-daram.result.1.words ≡ 28 = all.1.1 ∙ ap (λ (r : Extent). r.size) all.0 ∙ large in
    let own : length (piece_words c.put_in.new.self.p0) ≡ 4 = ap (λ (ps : Pieces). length (piece_words ps.p0)) c.put_in.ensures ∙ object in
    let lent : length (block_words c.replace.new.self.daram) ≡ 28 = ap (λ (b : Option ScratchBlock). length (block_words b)) c.replace.ensures.new ∙ block in
    one_has_words c.one_space-table.result c.put_in.new.self c.none-none.result c.replace.new.self c.one_space-table.ensures (omega (arith, own)) (omega (arith, lent))

pub end-requires : goal.end-requires
end-requires g c =
    one_gone c.new-group.result c.replace.new.self c.lend.new.self c.remove.new.self c.new-group.ensures.blocks c.replace.ensures.others c.lend.ensures.group
    c.remove.ensures.others c.remove.ensures.new
