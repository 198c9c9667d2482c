use Rattle.std.proofs.Common.{subst, ◌∙◌, arith}
use Rattle.record_loans.specs.Cuts.{start_of}
use Rattle.record_loans.specs.Taken.{HasRecord}
use Rattle.record_loans.proofs.Parts.{middle_back, no_words, same_refilled}
use Rattle.record_loans.proofs.PieceLemmas.{reflexive}
use Rattle.record_loans.proofs.loans.lend_second.Goals as goal

pub split_at_mut-gap-requires : goal.split_at_mut-gap-requires
split_at_mut-gap-requires g c =
    let has = subst (HasRecord c.args.loan.now.plan.now.second) c.in-Some.is c.requires.second in
    rw (c.start.ensures, c.words_mut.ensures.value) (omega (arith, has))

pub split_at_mut-r2-requires : goal.split_at_mut-r2-requires
split_at_mut-r2-requires g c =
    let has = subst (HasRecord c.args.loan.now.plan.now.second) c.in-Some.is c.requires.second in
    let left = rw (c.start.ensures, c.words_mut.ensures.value) at c.split_at_mut-gap.ensures.back_len in
    omega (arith, has, left)

pub returns-in-Some-clause-done : goal.returns-in-Some-clause-done
returns-in-Some-clause-done g c =
    let cut = c.args.loan.now.plan.now.second in
    let lent = c.lend_third in
    let gap = c.split_at_mut-gap.ensures in
    let r2 = c.split_at_mut-r2.ensures in
    let start = c.start.ensures in
    let words = c.words_mut.ensures.value in
    let long = rw (start, words) at gap.back_len in
    let back = middle_back (start_of cut.source cut.gap) cut.size c.in-Some.piece.words c.split_at_mut-gap.result.0.now lent.new.r2 c.split_at_mut-r2.result.1.now (gap.front_len ∙ start) (lent.auto.r2 ∙ r2.front_len) (rw r2.back_len long) in
    rw (c.in-Some.is, back) (rw (r2.front, gap.back, words, start) at lent.ensures.done)

pub returns-in-Some-clause-second : goal.returns-in-Some-clause-second
returns-in-Some-clause-second g c = rw c.in-Some.is (same_refilled c.in-Some.piece _)

pub returns-in-None-clause-done : goal.returns-in-None-clause-done
returns-in-None-clause-done g c =
    let lent = c.lend_third-in-None in
    rw c.in-None.is (rw (no_words lent.new.r2 lent.auto.r2) at lent.ensures.done)

pub returns-in-None-clause-second : goal.returns-in-None-clause-second
returns-in-None-clause-second g c = reflexive c.args.second.now
