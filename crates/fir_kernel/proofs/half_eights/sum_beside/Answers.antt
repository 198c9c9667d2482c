use Rattle.std.proofs.Common.{◌≡◌, ◌+◌, ◌*◌, ◌%◌, length, arith}
use Rattle.fir_kernel.proofs.HalfLanes.{none_written}
use Rattle.fir_kernel.proofs.HalfEights.{halved_kept, eight_written}
use Rattle.fir_kernel.proofs.half_eights.sum_beside.Goals as goal

pub loop-pair-init : goal.loop-pair-init
loop-pair-init c = record {
  a = halved_kept c.begin-a.result _ c.begin-a.ensures;
  b = halved_kept c.begin-b.result _ c.begin-b.ensures;
  c = halved_kept c.begin-c.result _ c.begin-c.ensures;
  d = halved_kept c.begin-d.result _ c.begin-d.ensures;
}

pub loop-pair-preserved : goal.loop-pair-preserved
loop-pair-preserved c = record {
  a = halved_kept c.add_pair-a.result _ c.add_pair-a.ensures;
  b = halved_kept c.add_pair-b.result _ c.add_pair-b.ensures;
  c = halved_kept c.add_pair-c.result _ c.add_pair-c.ensures;
  d = halved_kept c.add_pair-d.result _ c.add_pair-d.ensures;
}

pub returns : goal.returns
returns c =
    let cs = c.args.coefficients.now in
    let line = c.args.line.now in
    let first = c.args.first in
    let at = c.args.at in
    let i = c.loop-pair.invariant in
    let taps = length cs % 2 + 2 * c.loop-pair.pair in
    let all : taps ≡ length cs = omega arith in
    let old = c.args.sums.now in
    let none = none_written cs line old first at c.requires.halves in
    let one = eight_written cs line old _ c.write-second.new.sums _ first at 0 taps at first all (omega arith) (omega arith) none c.write-second.ensures.written i.a in
    let at8 : c.write-second.result ≡ at + 8 = c.write-second.ensures.next in
    let two = eight_written cs line old _ c.write-third.new.sums _ first at 8 taps c.write-second.result (first + 8) all at8 (omega arith) one c.write-third.ensures.written i.b in
    let at16 : c.write-third.result ≡ at + 16 = omega (arith, c.write-third.ensures.next, at8) in
    let three = eight_written cs line old _ c.write-fourth.new.sums _ first at 16 taps c.write-third.result (first + 16) all at16 (omega arith) two c.write-fourth.ensures.written i.c in
    let at24 : c.write-fourth.result ≡ at + 24 = omega (arith, c.write-fourth.ensures.next, at16) in
    eight_written cs line old _ c.write-end.new.sums _ first at 24 taps c.write-fourth.result (first + 24) all at24 (omega arith) three c.write-end.ensures.written i.d

pub begin-a-requires-clause-samples : goal.begin-a-requires-clause-samples
begin-a-requires-clause-samples c = c.requires.samples

pub begin-a-requires-clause-products : goal.begin-a-requires-clause-products
begin-a-requires-clause-products c = c.requires.products

pub begin-a-requires-clause-reach : goal.begin-a-requires-clause-reach
begin-a-requires-clause-reach c = omega (arith, c.requires.reach)

pub add_pair-a-requires-clause-samples : goal.add_pair-a-requires-clause-samples
add_pair-a-requires-clause-samples c = c.requires.samples

pub add_pair-a-requires-clause-products : goal.add_pair-a-requires-clause-products
add_pair-a-requires-clause-products c = c.requires.products

pub add_pair-a-requires-clause-reach : goal.add_pair-a-requires-clause-reach
add_pair-a-requires-clause-reach c = omega (arith, c.requires.reach)

pub add_pair-a-requires-clause-pair : goal.add_pair-a-requires-clause-pair
add_pair-a-requires-clause-pair c = omega (arith, c.loop-pair-test.true)

pub add_pair-a-requires-clause-before : goal.add_pair-a-requires-clause-before
add_pair-a-requires-clause-before c = c.loop-pair.invariant.a

pub begin-b-requires-clause-samples : goal.begin-b-requires-clause-samples
begin-b-requires-clause-samples c = c.requires.samples

pub begin-b-requires-clause-products : goal.begin-b-requires-clause-products
begin-b-requires-clause-products c = c.requires.products

pub begin-b-requires-clause-reach : goal.begin-b-requires-clause-reach
begin-b-requires-clause-reach c = omega (arith, c.requires.reach)

pub add_pair-b-requires-clause-samples : goal.add_pair-b-requires-clause-samples
add_pair-b-requires-clause-samples c = c.requires.samples

pub add_pair-b-requires-clause-products : goal.add_pair-b-requires-clause-products
add_pair-b-requires-clause-products c = c.requires.products

pub add_pair-b-requires-clause-reach : goal.add_pair-b-requires-clause-reach
add_pair-b-requires-clause-reach c = omega (arith, c.requires.reach)

pub add_pair-b-requires-clause-pair : goal.add_pair-b-requires-clause-pair
add_pair-b-requires-clause-pair c = omega (arith, c.loop-pair-test.true)

pub add_pair-b-requires-clause-before : goal.add_pair-b-requires-clause-before
add_pair-b-requires-clause-before c = c.loop-pair.invariant.b

pub begin-c-requires-clause-samples : goal.begin-c-requires-clause-samples
begin-c-requires-clause-samples c = c.requires.samples

pub begin-c-requires-clause-products : goal.begin-c-requires-clause-products
begin-c-requires-clause-products c = c.requires.products

pub begin-c-requires-clause-reach : goal.begin-c-requires-clause-reach
begin-c-requires-clause-reach c = omega (arith, c.requires.reach)

pub add_pair-c-requires-clause-samples : goal.add_pair-c-requires-clause-samples
add_pair-c-requires-clause-samples c = c.requires.samples

pub add_pair-c-requires-clause-products : goal.add_pair-c-requires-clause-products
add_pair-c-requires-clause-products c = c.requires.products

pub add_pair-c-requires-clause-reach : goal.add_pair-c-requires-clause-reach
add_pair-c-requires-clause-reach c = omega (arith, c.requires.reach)

pub add_pair-c-requires-clause-pair : goal.add_pair-c-requires-clause-pair
add_pair-c-requires-clause-pair c = omega (arith, c.loop-pair-test.true)

pub add_pair-c-requires-clause-before : goal.add_pair-c-requires-clause-before
add_pair-c-requires-clause-before c = c.loop-pair.invariant.c

pub begin-d-requires-clause-samples : goal.begin-d-requires-clause-samples
begin-d-requires-clause-samples c = c.requires.samples

pub begin-d-requires-clause-products : goal.begin-d-requires-clause-products
begin-d-requires-clause-products c = c.requires.products

pub begin-d-requires-clause-reach : goal.begin-d-requires-clause-reach
begin-d-requires-clause-reach c = omega (arith, c.requires.reach)

pub add_pair-d-requires-clause-samples : goal.add_pair-d-requires-clause-samples
add_pair-d-requires-clause-samples c = c.requires.samples

pub add_pair-d-requires-clause-products : goal.add_pair-d-requires-clause-products
add_pair-d-requires-clause-products c = c.requires.products

pub add_pair-d-requires-clause-reach : goal.add_pair-d-requires-clause-reach
add_pair-d-requires-clause-reach c = omega (arith, c.requires.reach)

pub add_pair-d-requires-clause-pair : goal.add_pair-d-requires-clause-pair
add_pair-d-requires-clause-pair c = omega (arith, c.loop-pair-test.true)

pub add_pair-d-requires-clause-before : goal.add_pair-d-requires-clause-before
add_pair-d-requires-clause-before c = c.loop-pair.invariant.d

pub write-second-requires-clause-eight : goal.write-second-requires-clause-eight
write-second-requires-clause-eight c = c.loop-pair.invariant.a.eight

pub write-second-requires-clause-within : goal.write-second-requires-clause-within
write-second-requires-clause-within c = c.loop-pair.invariant.a.within

pub write-third-requires-clause-eight : goal.write-third-requires-clause-eight
write-third-requires-clause-eight c = c.loop-pair.invariant.b.eight

pub write-third-requires-clause-within : goal.write-third-requires-clause-within
write-third-requires-clause-within c = c.loop-pair.invariant.b.within

pub write-fourth-requires-clause-eight : goal.write-fourth-requires-clause-eight
write-fourth-requires-clause-eight c = c.loop-pair.invariant.c.eight

pub write-fourth-requires-clause-within : goal.write-fourth-requires-clause-within
write-fourth-requires-clause-within c = c.loop-pair.invariant.c.within

pub write-end-requires-clause-eight : goal.write-end-requires-clause-eight
write-end-requires-clause-eight c = c.loop-pair.invariant.d.eight

pub write-end-requires-clause-within : goal.write-end-requires-clause-within
write-end-requires-clause-within c = c.loop-pair.invariant.d.within
