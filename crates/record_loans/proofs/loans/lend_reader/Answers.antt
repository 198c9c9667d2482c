use Rattle.std.proofs.Common.{refl, ◌∙◌}
use Rattle.record_loans.specs.Performed.{Performed}
use Rattle.record_loans.proofs.Parts.{front_lent, of_same, no_words, none_lent, same_lent, room_in}
use Rattle.record_loans.proofs.PieceLemmas.{reflexive}
use Rattle.record_loans.proofs.loans.lend_reader.Goals as goal

pub returns-in-Some-once-clause-done : goal.returns-in-Some-once-clause-done
returns-in-Some-once-clause-done g c =
    let n = c.args.sizes in
    let lent = c.lend in
    let object = c.split_at_mut-object in
    let once = c.split_at_mut-once in
    let o = front_lent n.object lent.new.r0 object.result.1.now c.in-Some.is c.words_mut.ensures.value object.ensures.front object.ensures.front_len object.ensures.back_len lent.auto.r0 in
    let w = front_lent n.once lent.new.r1 once.result.1.now c.in-Some-once.is c.words_mut-in-Some-once.ensures.value once.ensures.front once.ensures.front_len once.ensures.back_len lent.auto.r1 in
    of_same (λ old new. Performed g.S.Step.done c.args.loan.now old new c.args.out.now lent.new.out) o.0 w.0 refl refl o.1 w.1
    (no_words lent.new.r2 lent.auto.r2) (no_words lent.new.r3 lent.auto.r3) lent.ensures.done

pub returns-in-None-once-clause-done : goal.returns-in-None-once-clause-done
returns-in-None-once-clause-done g c =
    let n = c.args.sizes in
    let lent = c.lend-in-None-once in
    let object = c.split_at_mut-object-in-None-once in
    let o = front_lent n.object lent.new.r0 object.result.1.now c.in-Some.is c.words_mut-in-None-once.ensures.value object.ensures.front object.ensures.front_len object.ensures.back_len lent.auto.r0 in
    let none = none_lent n.once c.in-None-once.is in
    of_same (λ old new. Performed g.S.Step.done c.args.loan.now old new c.args.out.now lent.new.out) o.0 none refl refl o.1 (no_words lent.new.r1 lent.auto.r1 ∙ none)
    (no_words lent.new.r2 lent.auto.r2) (no_words lent.new.r3 lent.auto.r3) lent.ensures.done

pub returns-in-Some-once-clause-own : goal.returns-in-Some-once-clause-own
returns-in-Some-once-clause-own g c =
    let own = c.args.own.now in
    record { p0 = same_lent c.in-Some.object _ c.in-Some.is; p1 = reflexive own.p1; p2 = reflexive own.p2; p3 = reflexive own.p3 }

pub returns-in-None-once-clause-own : goal.returns-in-None-once-clause-own
returns-in-None-once-clause-own g c =
    let own = c.args.own.now in
    record { p0 = same_lent c.in-Some.object _ c.in-Some.is; p1 = reflexive own.p1; p2 = reflexive own.p2; p3 = reflexive own.p3 }

pub returns-in-Some-once-clause-once : goal.returns-in-Some-once-clause-once
returns-in-Some-once-clause-once g c = same_lent c.in-Some-once.once _ c.in-Some-once.is

pub returns-in-None-once-clause-once : goal.returns-in-None-once-clause-once
returns-in-None-once-clause-once g c = reflexive c.args.once.now

pub split_at_mut-object-requires : goal.split_at_mut-object-requires
split_at_mut-object-requires g c = room_in c.in-Some.is c.words_mut.ensures.value c.requires.fit.object

pub split_at_mut-object-requires-in-None-once : goal.split_at_mut-object-requires-in-None-once
split_at_mut-object-requires-in-None-once g c = room_in c.in-Some.is c.words_mut-in-None-once.ensures.value c.requires.fit.object

pub split_at_mut-once-requires : goal.split_at_mut-once-requires
split_at_mut-once-requires g c = room_in c.in-Some-once.is c.words_mut-in-Some-once.ensures.value c.requires.fit.once
