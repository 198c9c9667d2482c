use Rattle.std.proofs.Common.{◌≡◌, length, Option, Some, None, ap, sym, ◌∙◌, arith, length-take, length-drop}
use Rattle.space_raw.specs.Span.{Extent}
use Rattle.record_loans.specs.declared.pieces.Pieces.{Pieces}
use Rattle.record_loans.specs.declared.block.ScratchBlock.{ScratchBlock}
use Rattle.record_loans.specs.Blocks.{block_piece, block_words}
use Rattle.test_memory.proofs.GroupLemmas.{two_have_words, two_gone, first_stays, second_stays, same_span, still_whole}
use Rattle.test_memory.proofs.groups.records_are_lent_in_two_spaces.Goals as goal

pub lend-requires-clause-sizes : goal.lend-requires-clause-sizes
lend-requires-clause-sizes g c =
    let whole = c.memory-external.ensures.whole in
    let all : length c.memory-external.result.1.words ≡ 16 = whole.1.1 ∙ ap (λ (r : Extent). r.size) whole.0 ∙ c.memory-external.ensures.size in
    let left = ap length c.split-object.ensures.left.2 in
    let right = ap length c.split-object.ensures.right.2 in
    let object : length c.split-object.result.0.words ≡ 8 = omega (arith, all, left, length-take 8 c.memory-external.result.1.words) in
    let once : length c.split-object.result.1.words ≡ 8 = omega (arith, all, right, length-drop 8 c.memory-external.result.1.words) in
    let daram = c.memory-daram.ensures.whole in
    let fast : length c.memory-daram.result.1.words ≡ 8 = daram.1.1 ∙ ap (λ (r : Extent). r.size) daram.0 ∙ c.memory-daram.ensures.size in
    let saram = c.memory-saram.ensures.whole in
    let slow : length c.memory-saram.result.1.words ≡ 4 = saram.1.1 ∙ ap (λ (r : Extent). r.size) saram.0 ∙ c.memory-saram.ensures.size in
    let own : Pieces = record { p0 = Some c.split-object.result.0; p1 = None; p2 = None; p3 = None } in
    let shared : Pieces = record { p0 = None; p1 = Some c.split-object.result.1; p2 = None; p3 = None } in
    let stands = first_stays _ c.replace-was_in_daram.new.self c.replace-was_in_saram.new.self c.replace-was_in_saram.ensures.others c.replace-was_in_daram.ensures.new in
    let first : length (block_words c.replace-was_in_saram.new.self.daram) ≡ 8 = ap (λ (b : Option ScratchBlock). length (block_words b)) stands ∙ fast in
    let second : length (block_words c.replace-was_in_saram.new.self.saram) ≡ 4 = ap (λ (b : Option ScratchBlock). length (block_words b)) c.replace-was_in_saram.ensures.new ∙ slow in
    two_have_words c.two_spaces-table.result own shared c.replace-was_in_saram.new.self c.two_spaces-table.ensures
    (omega (arith, object)) (omega (arith, once)) (omega (arith, first)) (omega (arith, second))

pub end-requires : goal.end-requires
end-requires g c =
    two_gone c.new-group.result c.replace-was_in_daram.new.self c.replace-was_in_saram.new.self c.lend.new.self c.remove-in_daram.new.self c.remove-in_saram.new.self
    c.new-group.ensures.blocks c.replace-was_in_daram.ensures.others c.replace-was_in_saram.ensures.others c.lend.ensures.group
    c.remove-in_daram.ensures.others c.remove-in_daram.ensures.new c.remove-in_saram.ensures.others c.remove-in_saram.ensures.new

pub close_both-requires-clause-daram : goal.close_both-requires-clause-daram
close_both-requires-clause-daram g c =
    let stands = first_stays _ c.replace-was_in_daram.new.self c.replace-was_in_saram.new.self c.replace-was_in_saram.ensures.others c.replace-was_in_daram.ensures.new in
    let same = same_span _ c.replace-was_in_saram.new.self.daram c.lend.new.self.daram c.expect-fast.result stands c.lend.ensures.group.daram (sym c.remove-in_daram.ensures.old ∙ c.expect-fast.ensures) in
    still_whole c.memory-daram.result.1 c.expect-fast.result c.memory-daram.result.0 c.memory-daram.ensures.whole same

pub close_both-requires-clause-saram : goal.close_both-requires-clause-saram
close_both-requires-clause-saram g c =
    let gone = ap block_piece (sym (second_stays c.lend.new.self c.remove-in_daram.new.self c.remove-in_daram.ensures.others)) ∙ sym c.remove-in_saram.ensures.old ∙ c.expect-slow.ensures in
    let same = same_span _ c.replace-was_in_saram.new.self.saram c.lend.new.self.saram c.expect-slow.result c.replace-was_in_saram.ensures.new c.lend.ensures.group.saram gone in
    still_whole c.memory-saram.result.1 c.expect-slow.result c.memory-saram.result.0 c.memory-saram.ensures.whole same
