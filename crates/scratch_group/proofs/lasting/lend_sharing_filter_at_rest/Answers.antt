use Rattle.std.proofs.Common.{◌≤◌, length, subst, ◌∙◌}
use Rattle.record_loans.specs.Pieces.{piece_words}
use Rattle.record_loans.proofs.Parts.{front_back, no_words, same_refilled}
use Rattle.record_loans.proofs.PieceLemmas.{reflexive}
use Rattle.scratch_group.proofs.lasting.lend_sharing_filter_at_rest.Goals as goal

pub returns-clause-done : goal.returns-clause-done
returns-clause-done g c =
    let sizes = c.args.sizes in
    let lent = c.lend in
    let object = c.split_at_mut-object.ensures in
    let kept = c.split_at_mut-kept.ensures in
    let constants = c.split_at_mut-constants.ensures in
    let o = c.words_mut.ensures.value in
    let k = c.words_mut-in-Some-once.ensures.value in
    let w = c.words_mut-shared.ensures.value in
    let object_back = front_back sizes.object c.in-Some.object.words lent.new.r0 _ (lent.auto.r0 ∙ object.front_len) (rw o at object.back_len) in
    let kept_back = front_back sizes.kept c.in-Some-p1.kept.words lent.new.r1 _ (lent.auto.r1 ∙ kept.front_len) (rw k at kept.back_len) in
    let constants_back = front_back sizes.constants c.in-Some-once.once.words lent.new.r2 _ (lent.auto.r2 ∙ constants.front_len) (rw w at constants.back_len) in
    let none = no_words lent.new.r3 lent.auto.r3 in
    rw (c.in-Some.is, c.in-Some-p1.is, c.in-Some-once.is, object_back, kept_back, constants_back)
    (rw (object.front, kept.front, constants.front, o, k, w, none) at lent.ensures.done)

pub returns-clause-own : goal.returns-clause-own
returns-clause-own g c =
    let own = c.args.own.now in record {
      p0 = rw c.in-Some.is (same_refilled c.in-Some.object _);
      p1 = rw c.in-Some-p1.is (same_refilled c.in-Some-p1.kept _);
      p2 = reflexive own.p2;
      p3 = reflexive own.p3;
    }

pub returns-clause-once : goal.returns-clause-once
returns-clause-once g c = rw c.in-Some-once.is (same_refilled c.in-Some-once.once _)

pub split_at_mut-object-requires : goal.split_at_mut-object-requires
split_at_mut-object-requires g c = rw c.words_mut.ensures.value (subst (λ p. c.args.sizes.object ≤ length (piece_words p)) c.in-Some.is c.requires.object)

pub split_at_mut-kept-requires : goal.split_at_mut-kept-requires
split_at_mut-kept-requires g c = rw c.words_mut-in-Some-once.ensures.value (subst (λ p. c.args.sizes.kept ≤ length (piece_words p)) c.in-Some-p1.is c.requires.kept)

pub split_at_mut-constants-requires : goal.split_at_mut-constants-requires
split_at_mut-constants-requires g c = rw c.words_mut-shared.ensures.value (subst (λ p. c.args.sizes.constants ≤ length (piece_words p)) c.in-Some-once.is c.requires.constants)
