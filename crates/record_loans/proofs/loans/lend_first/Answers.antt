use Rattle.std.proofs.Common.{subst, ◌∙◌, arith}
use Rattle.record_loans.specs.Cuts.{start_of}
use Rattle.record_loans.specs.Taken.{HasRecord}
use Rattle.record_loans.proofs.Parts.{middle_back, no_words, same_refilled}
use Rattle.record_loans.proofs.PieceLemmas.{reflexive}
use Rattle.record_loans.proofs.loans.lend_first.Goals as goal

pub split_at_mut-gap-requires : goal.split_at_mut-gap-requires
split_at_mut-gap-requires g c =
    let has = subst (HasRecord c.args.loan.now.plan.now.first) c.in-Some.is c.requires.first in
    rw (c.start.ensures, c.words_mut.ensures.value) (omega (arith, has))

pub split_at_mut-r1-requires : goal.split_at_mut-r1-requires
split_at_mut-r1-requires g c =
    let has = subst (HasRecord c.args.loan.now.plan.now.first) c.in-Some.is c.requires.first in
    let left = rw (c.start.ensures, c.words_mut.ensures.value) at c.split_at_mut-gap.ensures.back_len in
    omega (arith, has, left)

pub returns-in-Some-clause-done : goal.returns-in-Some-clause-done
returns-in-Some-clause-done g c =
    let cut = c.args.loan.now.plan.now.first in
    let lent = c.lend_second in
    let gap = c.split_at_mut-gap.ensures in
    let r1 = c.split_at_mut-r1.ensures in
    let start = c.start.ensures in
    let words = c.words_mut.ensures.value in
    let long = rw (start, words) at gap.back_len in
    let back = middle_back (start_of cut.source cut.gap) cut.size c.in-Some.piece.words c.split_at_mut-gap.result.0.now lent.new.r1 c.split_at_mut-r1.result.1.now (gap.front_len ∙ start) (lent.auto.r1 ∙ r1.front_len) (rw r1.back_len long) in
    rw (c.in-Some.is, back) (rw (r1.front, gap.back, words, start) at lent.ensures.done)

pub returns-in-Some-clause-first : goal.returns-in-Some-clause-first
returns-in-Some-clause-first g c = rw c.in-Some.is (same_refilled c.in-Some.piece _)

pub returns-in-None-clause-done : goal.returns-in-None-clause-done
returns-in-None-clause-done g c =
    let lent = c.lend_second-in-None in
    rw c.in-None.is (rw (no_words lent.new.r1 lent.auto.r1) at lent.ensures.done)

pub returns-in-None-clause-first : goal.returns-in-None-clause-first
returns-in-None-clause-first g c = reflexive c.args.first.now
