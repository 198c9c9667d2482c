use Rattle.std.proofs.Common.{refl, ap}
use Rattle.record_loans.specs.Blocks.{block_piece}
use Rattle.record_loans.specs.Performed.{Performed}
use Rattle.record_loans.proofs.Parts.{front_lent, of_same, no_words, same_refilled, same_lent, room_in, not_missing}
use Rattle.record_loans.proofs.PieceLemmas.{reflexive}
use Rattle.record_loans.proofs.loans.lend_filter.Goals as goal

pub returns-clause-done : goal.returns-clause-done
returns-clause-done g c =
    let n = c.args.sizes in
    let lent = c.lend in
    let object = c.split_at_mut-object in
    let kept = c.split_at_mut-kept in
    let running = c.split_at_mut-running in
    let o = front_lent n.object lent.new.r0 object.result.1.now c.in-Some.is c.words_mut.ensures.value object.ensures.front object.ensures.front_len object.ensures.back_len lent.auto.r0 in
    let k = front_lent n.kept lent.new.r1 kept.result.1.now c.in-Some-p1.is c.words_mut-in-Some-daram.ensures.value kept.ensures.front kept.ensures.front_len kept.ensures.back_len lent.auto.r1 in
    let r = front_lent n.running lent.new.r2 running.result.1.now (ap block_piece c.in-Some-daram.is) c.words_mut-scratch.ensures.value running.ensures.front running.ensures.front_len running.ensures.back_len lent.auto.r2 in
    of_same (λ old new. Performed g.S.Step.done c.args.loan.now old new c.args.out.now lent.new.out) o.0 k.0 r.0 refl o.1 k.1 r.1 (no_words lent.new.r3 lent.auto.r3) lent.ensures.done

pub returns-clause-own : goal.returns-clause-own
returns-clause-own g c =
    let own = c.args.own.now in record {
      p0 = same_lent c.in-Some.object _ c.in-Some.is;
      p1 = same_lent c.in-Some-p1.kept _ c.in-Some-p1.is;
      p2 = reflexive own.p2;
      p3 = reflexive own.p3;
    }

pub returns-clause-daram : goal.returns-clause-daram
returns-clause-daram g c = rw c.in-Some-daram.is (same_refilled c.in-Some-daram.block.piece _, refl)

pub split_at_mut-object-requires : goal.split_at_mut-object-requires
split_at_mut-object-requires g c = room_in c.in-Some.is c.words_mut.ensures.value c.requires.fit.object

pub split_at_mut-kept-requires : goal.split_at_mut-kept-requires
split_at_mut-kept-requires g c = room_in c.in-Some-p1.is c.words_mut-in-Some-daram.ensures.value c.requires.fit.kept

pub split_at_mut-running-requires : goal.split_at_mut-running-requires
split_at_mut-running-requires g c = room_in (ap block_piece c.in-Some-daram.is) c.words_mut-scratch.ensures.value c.requires.fit.running

-- no piece and no block is missing: each of the records has a word at least
pub unreachable-unreachable : goal.unreachable-unreachable
unreachable-unreachable g c = not_missing (ap block_piece c.in-None-daram.is) c.requires.some.2 c.requires.fit.running

pub unreachable-unreachable-in-None-p1 : goal.unreachable-unreachable-in-None-p1
unreachable-unreachable-in-None-p1 g c = not_missing c.in-None-p1.is c.requires.some.1 c.requires.fit.kept

pub unreachable-unreachable-in-None : goal.unreachable-unreachable-in-None
unreachable-unreachable-in-None g c = not_missing c.in-None.is c.requires.some.0 c.requires.fit.object
