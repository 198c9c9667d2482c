use Rattle.std.proofs.Common.{arith}
use Rattle.host_map.specs.declared.placed.Owner.TheVariants.{Record}
use Rattle.host_map.specs.declared.placed.Placed.{Placed}
use Rattle.host_spaces.proofs.Searches.{above, below, middle}
use Rattle.host_spaces.proofs.blocks.count_before.Goals as goal

-- what a read past the end would give
abbrev blank : Placed
blank = record { owner = Record 0 0; place = 0; size = 0; align = 0 }

pub loop-low-init : goal.loop-low-init
loop-low-init c = record {
  order = omega arith;
  upto = omega arith;
  before = λ k d lt. absurd (omega (arith, lt));
  behind = λ k d le lt. absurd (omega (arith, le, lt));
}

pub bounds-blocks-middle : goal.bounds-blocks-middle
bounds-blocks-middle c =
    let less = middle c.loop-low.low c.loop-low.high c.loop-low-test.true in let upto = c.loop-low.invariant.upto in omega (arith, less, upto)

pub loop-low-preserved-then-blocks-middle : goal.loop-low-preserved-then-blocks-middle
loop-low-preserved-then-blocks-middle c =
    let less = middle c.loop-low.low c.loop-low.high c.loop-low-test.true in let upto = c.loop-low.invariant.upto in
    record {
      order = omega (arith, less);
      upto = upto;
      before = below c.args.blocks.now _ c.args.place blank c.requires.order (omega (arith, less, upto)) c.if-blocks-middle.true;
      behind = c.loop-low.invariant.behind;
    }

pub loop-low-preserved : goal.loop-low-preserved
loop-low-preserved c =
    let less = middle c.loop-low.low c.loop-low.high c.loop-low-test.true in let upto = c.loop-low.invariant.upto in
    record {
      order = omega arith;
      upto = omega (arith, less, upto);
      before = c.loop-low.invariant.before;
      behind = above c.args.blocks.now _ c.args.place blank c.requires.order c.if-blocks-middle.false;
    }

pub returns-clause-within : goal.returns-clause-within
returns-clause-within c = let order = c.loop-low.invariant.order in let upto = c.loop-low.invariant.upto in omega (arith, order, upto)

pub returns-clause-before : goal.returns-clause-before
returns-clause-before c = c.loop-low.invariant.before

pub returns-clause-behind : goal.returns-clause-behind
returns-clause-behind c k d le lt = let end = c.loop-low-test.false in c.loop-low.invariant.behind k d (omega (arith, end, le)) lt
