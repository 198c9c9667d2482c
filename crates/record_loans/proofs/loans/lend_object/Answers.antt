use Rattle.std.proofs.Common.{◌≤◌, length, subst, ◌∙◌}
use Rattle.record_loans.specs.Pieces.{piece_words}
use Rattle.record_loans.proofs.Parts.{front_back, no_words, none_taken, same_refilled}
use Rattle.record_loans.proofs.PieceLemmas.{reflexive}
use Rattle.record_loans.proofs.loans.lend_object.Goals as goal

pub split_at_mut-object-requires : goal.split_at_mut-object-requires
split_at_mut-object-requires g c =
    rw c.words_mut.ensures.value (subst (λ p. c.args.loan.now.plan.now.object ≤ length (piece_words p)) c.in-Some.is c.requires.object)

pub returns-in-Some-clause-done : goal.returns-in-Some-clause-done
returns-in-Some-clause-done g c =
    let lent = c.lend_first in
    let object = c.split_at_mut-object.ensures in
    let words = c.words_mut.ensures.value in
    let back = front_back c.args.loan.now.plan.now.object c.in-Some.piece.words lent.new.r0 _ (lent.auto.r0 ∙ object.front_len) (rw words at object.back_len) in
    rw (c.in-Some.is, back) (rw (object.front, words) at lent.ensures.done)

pub returns-in-Some-clause-object : goal.returns-in-Some-clause-object
returns-in-Some-clause-object g c = rw c.in-Some.is (same_refilled c.in-Some.piece _)

pub returns-in-None-clause-done : goal.returns-in-None-clause-done
returns-in-None-clause-done g c =
    let lent = c.lend_first-in-None in
    rw (c.in-None.is, none_taken c.args.loan.now.plan.now.object) (rw (no_words lent.new.r0 lent.auto.r0) at lent.ensures.done)

pub returns-in-None-clause-object : goal.returns-in-None-clause-object
returns-in-None-clause-object g c = reflexive c.args.object.now
