use Rattle.std.proofs.Common.{◌≡◌, ℕ, ◌+◌, ◌≤◌, arith}
use Rattle.host_moves.proofs.Compactions.{count_small, amid_next, amid_end}
use Rattle.host_moves.proofs.compaction.compact.Goals as goal

all_of : (n left all : ℕ) → n + left ≡ all → all ≤ 65536 → n + 1 ≤ 65537
all_of n left all e few = omega (arith, e, few)

counted_on : (n left less all : ℕ) → n + left ≡ all → less + 1 ≡ left → n + 1 + less ≡ all
counted_on n left less all e f = omega (arith, e, f)

pub overflow_add-moved : goal.overflow_add-moved
overflow_add-moved g c =
    let few = all_of c.loop-space.moved _ _ c.loop-space.invariant.counted (count_small _ _ (c.in_order.ensures c.args.space)) in
    omega (arith, few)

pub loop-space-preserved : goal.loop-space-preserved
loop-space-preserved g c = record {
  ok = c.step_behind.ensures.ok;
  standing = c.step_behind.ensures.standing;
  front = c.step_behind.ensures.front;
  poisoned = λ w before. c.step_behind.ensures.poisoned w (c.loop-space.invariant.poisoned w before);
  counted = counted_on c.loop-space.moved _ _ _ c.loop-space.invariant.counted (c.step_behind.ensures.stepped.fewer c.loop-space-test.true);
  amid = λ before kept.
      let amid = c.loop-space.invariant.amid before kept in
      let next = c.step_behind.ensures.stepped.machine amid.now amid.kept in
      amid_next g.M.Ialg.law c.args.space c.loop-space.moved before amid (rw c.loop-space-test.true at next.0) next.1;
}

pub returns-clause-poisoned : goal.returns-clause-poisoned
returns-clause-poisoned g c w before = c.step_behind.ensures.poisoned w (c.loop-space.invariant.poisoned w before)

pub returns-clause-machine : goal.returns-clause-machine
returns-clause-machine g c before kept =
    let amid = c.loop-space.invariant.amid before kept in
    let next = c.step_behind.ensures.stepped.machine amid.now amid.kept in
    amid_end g.M.Ialg.law c.args.space c.loop-space.moved before amid (rw c.loop-space-test.false at next.0) next.1
