use Rattle.std.proofs.Common.{◌≡◌, ◌+◌, length, Option, Some, sym, ap, subst, ◌∙◌, lit≤, arith, length-append, length-take, length-drop}
use Rattle.space_raw.specs.Span.{Span}
use Rattle.record_loans.specs.declared.pieces.Pieces.{Pieces}
use Rattle.record_loans.specs.Pieces.{IsSamePiece}
use Rattle.mem_rec.specs.declared.Space.TheVariants.{Daram, Saram}
use Rattle.test_lives.proofs.Housing.{owner, same_block_span, still_whole}
use Rattle.test_lives.proofs.Rooms.{slicer_fits, owner_part, all_gone, no_external, piece_left, placed_daram}
use Rattle.test_lives.proofs.slicer_tests.a_slicer_lives.Goals as goal

pub live-member-requires-clause-room : goal.live-member-requires-clause-room
live-member-requires-clause-room g c =
    let external = c.region-external.result.0 in
    let all = c.region-external.result.1 in
    let is = c.region-external.ensures in
    let long : length all.words ≡ 6 = is.whole.1 ∙ ap (λ x. x.size) is.region ∙ is.size in
    let left = c.split-object.ensures.left in
    let right = c.split-object.ensures.right in
    let object = owner_part 4 6 external c.split-object.result.0 is.size (lit≤ tt) (left.0 ∙ is.region) (ap length left.2 ∙ omega (arith, length-take 4 all.words, long)) in
    let levels = owner_part 2 6 external c.split-object.result.1 is.size (lit≤ tt) (right.0 ∙ is.region) (ap length right.2 ∙ omega (arith, length-drop 4 all.words, long)) in
    rw c.alone-sharing.ensures.lent
    (slicer_fits c.table-table.result c.split-object.result.0 c.split-object.result.1 c.region-daram.result.1 c.region-saram.result.1 c.new-group.result c.replace-old_daram.new.self c.replace-old_saram.new.self
    c.table-table.ensures object levels (omega (arith, left.1, right.1)) c.new-group.ensures.blocks c.replace-old_daram.ensures.new c.replace-old_daram.ensures.others c.replace-old_saram.ensures.new c.replace-old_saram.ensures.others
    (owner 8 c.region-daram.result.1 c.region-daram.result.0 (lit≤ tt) c.region-daram.ensures.size (c.region-daram.ensures.region, c.region-daram.ensures.whole))
    (owner 4 c.region-saram.result.1 c.region-saram.result.0 (lit≤ tt) c.region-saram.ensures.size (c.region-saram.ensures.region, c.region-saram.ensures.whole)))

pub end-requires : goal.end-requires
end-requires g c =
    all_gone c.replace-old_saram.new.self c.live-member.new.group c.take_block-low.new.group c.take_block-high.new.group
    (no_external c.new-group.result c.replace-old_daram.new.self c.replace-old_saram.new.self c.new-group.ensures.blocks c.replace-old_daram.ensures.others c.replace-old_saram.ensures.others)
    c.live-member.ensures.blocks c.take_block-low.ensures.others c.take_block-low.ensures.new c.take_block-high.ensures.others c.take_block-high.ensures.new

pub close_both-requires-clause-one : goal.close_both-requires-clause-one
close_both-requires-clause-one g c =
    let same = same_block_span 4 c.region-daram.result.1 c.take_block-low.result c.replace-old_saram.new.self.daram c.live-member.new.group.daram (placed_daram c.replace-old_daram.new.self c.replace-old_saram.new.self _ c.replace-old_daram.ensures.new c.replace-old_saram.ensures.others) (c.live-member.ensures.blocks Daram) c.take_block-low.ensures.old in
    still_whole c.region-daram.result.1 _ c.region-daram.result.0 (c.region-daram.ensures.region, c.region-daram.ensures.whole) same

pub close_both-requires-clause-other : goal.close_both-requires-clause-other
close_both-requires-clause-other g c =
    let same = same_block_span 64 c.region-saram.result.1 c.take_block-high.result c.replace-old_saram.new.self.saram c.live-member.new.group.saram c.replace-old_saram.ensures.new (c.live-member.ensures.blocks Saram) (sym (piece_left c.live-member.new.group c.take_block-low.new.group c.take_block-low.ensures.others) ∙ c.take_block-high.ensures.old) in
    still_whole c.region-saram.result.1 _ c.region-saram.result.0 (c.region-saram.ensures.region, c.region-saram.ensures.whole) same

pub join-requires : goal.join-requires
join-requires g c =
    let object : IsSamePiece (Some c.split-object.result.0) (Some c.expect.result) =
    subst (λ (p : Option Span). IsSamePiece (Some c.split-object.result.0) p) (sym (ap (λ (ps : Pieces). ps.p0) c.finish.ensures) ∙ sym c.two-object.ensures.0 ∙ c.expect.ensures)
    c.live-member.ensures.own.p0 in
    let levels : IsSamePiece (Some c.split-object.result.1) (Some c.expect-levels.result) =
    subst (λ (p : Option Span). IsSamePiece (Some c.split-object.result.1) p) (sym (ap (λ (ps : Pieces). ps.p1) c.parted.ensures) ∙ sym c.two-none.ensures.1 ∙ c.expect-levels.ensures) (rw (ap (λ (ps : Pieces). ps.p1) c.alone-sharing.ensures.lent) at c.live-member.ensures.shared.p1) in
    let all = c.region-external.result.1 in
    let is = c.region-external.ensures in
    let long : length all.words ≡ 6 = is.whole.1 ∙ ap (λ x. x.size) is.region ∙ is.size in
    let left = c.split-object.ensures.left in
    let right = c.split-object.ensures.right in
    let four : length c.split-object.result.0.words ≡ 4 = ap length left.2 ∙ omega (arith, length-take 4 all.words, long) in
    record { adjoins = (levels.0 ∙ right.0 ∙ sym left.0 ∙ sym object.0, omega (arith, levels.1, right.1, object.1, left.1, object.2, four)) }

pub close-requires-clause-whole : goal.close-requires-clause-whole
close-requires-clause-whole g c =
    let object : IsSamePiece (Some c.split-object.result.0) (Some c.expect.result) =
    subst (λ (p : Option Span). IsSamePiece (Some c.split-object.result.0) p) (sym (ap (λ (ps : Pieces). ps.p0) c.finish.ensures) ∙ sym c.two-object.ensures.0 ∙ c.expect.ensures)
    c.live-member.ensures.own.p0 in
    let levels : IsSamePiece (Some c.split-object.result.1) (Some c.expect-levels.result) =
    subst (λ (p : Option Span). IsSamePiece (Some c.split-object.result.1) p) (sym (ap (λ (ps : Pieces). ps.p1) c.parted.ensures) ∙ sym c.two-none.ensures.1 ∙ c.expect-levels.ensures) (rw (ap (λ (ps : Pieces). ps.p1) c.alone-sharing.ensures.lent) at c.live-member.ensures.shared.p1) in
    let all = c.region-external.result.1 in
    let is = c.region-external.ensures in
    let long : length all.words ≡ 6 = is.whole.1 ∙ ap (λ x. x.size) is.region ∙ is.size in
    let left = c.split-object.ensures.left in
    let right = c.split-object.ensures.right in
    let four : length c.split-object.result.0.words ≡ 4 = ap length left.2 ∙ omega (arith, length-take 4 all.words, long) in
    let more : length c.split-object.result.1.words ≡ 2 = ap length right.2 ∙ omega (arith, length-drop 4 all.words, long) in
    let size : c.join.result.region.size ≡ 6 = ap (λ x. x.size) (c.join.ensures.region ∙ object.0 ∙ left.0 ∙ is.region) ∙ is.size in
    let words : length c.join.result.words ≡ length c.expect.result.words + length c.expect-levels.result.words =
    ap length c.join.ensures.words ∙ length-append c.expect.result.words c.expect-levels.result.words in
    (c.join.ensures.place ∙ object.1 ∙ left.1 ∙ is.whole.0, omega (arith, words, object.2, levels.2, four, more, size))
