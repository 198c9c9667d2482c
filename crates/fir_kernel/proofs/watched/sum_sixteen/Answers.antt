use Rattle.std.proofs.Common.{◌≡◌, ◌∙◌, ◌+◌, ◌-◌, ◌*◌, ◌%◌, ◌<◌, ◌≤◌, length, FitsSigned, w16, rules, refl, arith}
use Rattle.std.proofs.lemmas.Int.{to_z-of_z}
use Rattle.ialg.specs.History.{word_at}
use Rattle.fir_kernel.specs.HalfLanes.{taps_sum}
use Rattle.fir_kernel.proofs.HalfLanes.{halved_kept, none_written, four_written, no_sums}
use Rattle.fir_kernel.proofs.Lanes.{part_fits}
use Rattle.fir_kernel.proofs.Parts.{part_length}
use Rattle.fir_kernel.proofs.SmallWords.{coefficient_halves}
use Rattle.fir_kernel.proofs.Groups.{added_together, ahead, between, newer_tap, room_small, stay_within}
use Rattle.fir_kernel.proofs.watched.sum_sixteen.Goals as goal
use Rattle.fir_kernel.proofs.watched.sum_sixteen.Goals.{then-are_below, else-are_below}

pub loop-tap-init : goal.loop-tap-init
loop-tap-init c = record { a = no_sums _ (λ k b. refl); b = no_sums _ (λ k b. refl); c = no_sums _ (λ k b. refl); d = no_sums _ (λ k b. refl) }

pub loop-tap-preserved : goal.loop-tap-preserved
loop-tap-preserved c =
    let cs = c.args.coefficients.now in
    let line = c.args.line.now in
    let first = c.args.first in
    let tap = c.loop-tap.tap in
    let i = c.loop-tap.invariant in
    let f : FitsSigned w16 (word_at cs tap) = search rules in
    let e : length cs % 8 < 8 = omega arith in
    let some : tap + 2 ≤ length cs = omega arith in
    record {
      a = newer_tap cs line c.add_newer-a.result first tap _ some (omega arith) (rw (to_z-of_z w16 (word_at cs tap) f) at (c.add_newer-a.ensures _ i.a));
      b = newer_tap cs line c.add_newer-b.result (first + 1) tap _ some (omega arith) (rw (to_z-of_z w16 (word_at cs tap) f) at (c.add_newer-b.ensures _ i.b));
      c = newer_tap cs line c.add_newer-c.result (first + 8) tap _ some (omega arith) (rw (to_z-of_z w16 (word_at cs tap) f) at (c.add_newer-c.ensures _ i.c));
      d = newer_tap cs line c.add_newer-d.result (first + 9) tap _ some (omega arith) (rw (to_z-of_z w16 (word_at cs tap) f) at (c.add_newer-d.ensures _ i.d));
    }

pub loop-group-init : goal.loop-group-init
loop-group-init c =
    let all : c.loop-tap.tap ≡ length c.args.coefficients.now % 8 + 8 * 0 = omega arith in
    let i = c.loop-tap.invariant in
    rw (← all) (record { a = i.a; b = i.b; c = i.c; d = i.d })

pub are_below-requires-clause-small : goal.are_below-requires-clause-small
are_below-requires-clause-small c = room_small c.args.coefficients.now c.args.line.now _ _ (c.requires.rooms c.loop-group.group (omega arith))

pub add_together-a-requires-clause-words : goal.add_together-a-requires-clause-words
add_together-a-requires-clause-words c = part_fits (length c.args.coefficients.now % 8 + 8 * c.loop-group.group) ((length c.args.coefficients.now % 8 + 8 * c.loop-group.group) + 8 - (length c.args.coefficients.now % 8 + 8 * c.loop-group.group)) c.args.coefficients.now c.requires.words

pub add_together-b-requires-clause-words : goal.add_together-b-requires-clause-words
add_together-b-requires-clause-words c = part_fits (length c.args.coefficients.now % 8 + 8 * c.loop-group.group) ((length c.args.coefficients.now % 8 + 8 * c.loop-group.group) + 8 - (length c.args.coefficients.now % 8 + 8 * c.loop-group.group)) c.args.coefficients.now c.requires.words

pub add_together-c-requires-clause-words : goal.add_together-c-requires-clause-words
add_together-c-requires-clause-words c = part_fits (length c.args.coefficients.now % 8 + 8 * c.loop-group.group) ((length c.args.coefficients.now % 8 + 8 * c.loop-group.group) + 8 - (length c.args.coefficients.now % 8 + 8 * c.loop-group.group)) c.args.coefficients.now c.requires.words

pub add_together-d-requires-clause-words : goal.add_together-d-requires-clause-words
add_together-d-requires-clause-words c = part_fits (length c.args.coefficients.now % 8 + 8 * c.loop-group.group) ((length c.args.coefficients.now % 8 + 8 * c.loop-group.group) + 8 - (length c.args.coefficients.now % 8 + 8 * c.loop-group.group)) c.args.coefficients.now c.requires.words

pub loop-group-preserved : goal.loop-group-preserved
loop-group-preserved c =
    let cs = c.args.coefficients.now in
    let line = c.args.line.now in
    let first = c.args.first in
    let tap = length cs % 8 + 8 * c.loop-group.group in
    let i = c.loop-group.invariant in
    let room = c.requires.rooms c.loop-group.group (omega arith) in
    let some : tap + 8 ≤ length cs = omega arith in
    let next : tap + 8 ≡ length cs % 8 + 8 * (c.loop-group.group + 1) = omega arith in
    record {
      a = elim c.if-are_below.branch [
        | then-are_below w ↦ rw (w.a-is, ← next)
            (added_together cs line _ w.add_together-a.result first tap _ some (omega arith) i.a
            (stay_within cs line _ tap _ room (c.are_below.ensures.a w.if-are_below.true)) w.add_together-a.ensures)
        | else-are_below w ↦ rw (w.a-is, ← next) (halved_kept w.add_in_order-a.result _ w.add_in_order-a.ensures)
      ];
      b = elim c.if-are_below.branch [
        | then-are_below w ↦ rw (w.b-is, ← next)
            (added_together cs line _ w.add_together-b.result (first + 1) tap _ some (omega arith) i.b
            (stay_within cs line _ tap _ room (c.are_below.ensures.b w.if-are_below.true)) w.add_together-b.ensures)
        | else-are_below w ↦ rw (w.b-is, ← next) (halved_kept w.add_in_order-b.result _ w.add_in_order-b.ensures)
      ];
      c = elim c.if-are_below.branch [
        | then-are_below w ↦ rw (w.c-is, ← next)
            (added_together cs line _ w.add_together-c.result (first + 8) tap _ some (omega arith) i.c
            (stay_within cs line _ tap _ room (c.are_below.ensures.c w.if-are_below.true)) w.add_together-c.ensures)
        | else-are_below w ↦ rw (w.c-is, ← next) (halved_kept w.add_in_order-c.result _ w.add_in_order-c.ensures)
      ];
      d = elim c.if-are_below.branch [
        | then-are_below w ↦ rw (w.d-is, ← next)
            (added_together cs line _ w.add_together-d.result (first + 9) tap _ some (omega arith) i.d
            (stay_within cs line _ tap _ room (c.are_below.ensures.d w.if-are_below.true)) w.add_together-d.ensures)
        | else-are_below w ↦ rw (w.d-is, ← next) (halved_kept w.add_in_order-d.result _ w.add_in_order-d.ensures)
      ];
    }

pub write-second-requires-clause-within : goal.write-second-requires-clause-within
write-second-requires-clause-within c =
    let cs = c.args.coefficients.now in
    let line = c.args.line.now in
    let first = c.args.first in
    let i = c.loop-group.invariant in
    let taps = length cs % 8 + 8 * c.loop-group.group in
    let ab = between cs line _ first (first + 1) taps (omega arith) i.b in
    (halved_kept c.low_of-first_sums.result _ (c.low_of-first_sums.ensures (λ j. taps_sum cs line taps (first + j)) i.a ab)).within

pub write-third-requires-clause-within : goal.write-third-requires-clause-within
write-third-requires-clause-within c =
    let cs = c.args.coefficients.now in
    let line = c.args.line.now in
    let first = c.args.first in
    let i = c.loop-group.invariant in
    let taps = length cs % 8 + 8 * c.loop-group.group in
    let ab = between cs line _ first (first + 1) taps (omega arith) i.b in
    (halved_kept c.high_of-second_sums.result _ (c.high_of-second_sums.ensures (λ j. taps_sum cs line taps (first + j)) i.a ab)).within

pub write-fourth-requires-clause-within : goal.write-fourth-requires-clause-within
write-fourth-requires-clause-within c =
    let cs = c.args.coefficients.now in
    let line = c.args.line.now in
    let first = c.args.first in
    let i = c.loop-group.invariant in
    let taps = length cs % 8 + 8 * c.loop-group.group in
    let ab = between cs line _ (first + 8) (first + 9) taps (omega arith) i.d in
    (halved_kept c.low_of-third_sums.result _ (c.low_of-third_sums.ensures (λ j. taps_sum cs line taps (first + 8 + j)) i.c ab)).within

pub write-end-requires-clause-within : goal.write-end-requires-clause-within
write-end-requires-clause-within c =
    let cs = c.args.coefficients.now in
    let line = c.args.line.now in
    let first = c.args.first in
    let i = c.loop-group.invariant in
    let taps = length cs % 8 + 8 * c.loop-group.group in
    let ab = between cs line _ (first + 8) (first + 9) taps (omega arith) i.d in
    (halved_kept c.high_of-fourth_sums.result _ (c.high_of-fourth_sums.ensures (λ j. taps_sum cs line taps (first + 8 + j)) i.c ab)).within

pub returns : goal.returns
returns c =
    let cs = c.args.coefficients.now in
    let line = c.args.line.now in
    let first = c.args.first in
    let at = c.args.at in
    let i = c.loop-group.invariant in
    let taps = length cs % 8 + 8 * c.loop-group.group in
    let all : taps ≡ length cs = omega arith in
    let old = c.args.sums.now in
    let ab = between cs line _ first (first + 1) taps (omega arith) i.b in
    let cd = between cs line _ (first + 8) (first + 9) taps (omega arith) i.d in
    let a = halved_kept c.low_of-first_sums.result _ (c.low_of-first_sums.ensures (λ j. taps_sum cs line taps (first + j)) i.a ab) in
    let b = halved_kept c.high_of-second_sums.result _ (ahead cs line c.high_of-second_sums.result first (first + 4) taps (omega arith) (c.high_of-second_sums.ensures (λ j. taps_sum cs line taps (first + j)) i.a ab)) in
    let e = halved_kept c.low_of-third_sums.result _ (c.low_of-third_sums.ensures (λ j. taps_sum cs line taps (first + 8 + j)) i.c cd) in
    let d = halved_kept c.high_of-fourth_sums.result _ (ahead cs line c.high_of-fourth_sums.result (first + 8) (first + 12) taps (omega arith) (c.high_of-fourth_sums.ensures (λ j. taps_sum cs line taps (first + 8 + j)) i.c cd)) in
    let none = none_written cs line old first at c.requires.halves in
    let one = four_written cs line old _ c.write-second.new.sums _ first at 0 taps at first all (omega arith) (omega arith) none c.write-second.ensures.written a in
    let at4 : c.write-second.result ≡ at + 4 = c.write-second.ensures.next in
    let two = four_written cs line old _ c.write-third.new.sums _ first at 4 taps c.write-second.result (first + 4) all at4 (omega arith) one c.write-third.ensures.written b in
    let at8 : c.write-third.result ≡ at + 8 = omega (arith, c.write-third.ensures.next, at4) in
    let three = four_written cs line old _ c.write-fourth.new.sums _ first at 8 taps c.write-third.result (first + 8) all at8 (omega arith) two c.write-fourth.ensures.written e in
    let at12 : c.write-fourth.result ≡ at + 12 = omega (arith, c.write-fourth.ensures.next, at8) in
    four_written cs line old _ c.write-end.new.sums _ first at 12 taps c.write-fourth.result (first + 12) all at12 (omega arith) three c.write-end.ensures.written d

pub add_newer-a-requires-clause-samples : goal.add_newer-a-requires-clause-samples
add_newer-a-requires-clause-samples c = c.requires.samples

pub add_newer-a-requires-clause-four : goal.add_newer-a-requires-clause-four
add_newer-a-requires-clause-four c = c.loop-tap.invariant.a.four

pub add_newer-a-requires-clause-within : goal.add_newer-a-requires-clause-within
add_newer-a-requires-clause-within c = c.loop-tap.invariant.a.within

pub add_together-a-requires-clause-samples : goal.add_together-a-requires-clause-samples
add_together-a-requires-clause-samples c = c.requires.samples

pub add_in_order-a-requires-clause-samples : goal.add_in_order-a-requires-clause-samples
add_in_order-a-requires-clause-samples c = c.requires.samples

pub add_in_order-a-requires-clause-products : goal.add_in_order-a-requires-clause-products
add_in_order-a-requires-clause-products c = c.requires.products

pub add_in_order-a-requires-clause-before : goal.add_in_order-a-requires-clause-before
add_in_order-a-requires-clause-before c = c.loop-group.invariant.a

pub are_below-requires-clause-a : goal.are_below-requires-clause-a
are_below-requires-clause-a c = c.loop-group.invariant.a.four

pub are_below-requires-clause-a_halves : goal.are_below-requires-clause-a_halves
are_below-requires-clause-a_halves c = c.loop-group.invariant.a.within

pub add_newer-a-requires-clause-products : goal.add_newer-a-requires-clause-products
add_newer-a-requires-clause-products c =
    let f : FitsSigned w16 (word_at c.args.coefficients.now c.loop-tap.tap) = search rules in
    coefficient_halves c.args.coefficients.now c.args.line.now _ f c.requires.products

pub add_newer-b-requires-clause-samples : goal.add_newer-b-requires-clause-samples
add_newer-b-requires-clause-samples c = c.requires.samples

pub add_newer-b-requires-clause-four : goal.add_newer-b-requires-clause-four
add_newer-b-requires-clause-four c = c.loop-tap.invariant.b.four

pub add_newer-b-requires-clause-within : goal.add_newer-b-requires-clause-within
add_newer-b-requires-clause-within c = c.loop-tap.invariant.b.within

pub add_together-b-requires-clause-samples : goal.add_together-b-requires-clause-samples
add_together-b-requires-clause-samples c = c.requires.samples

pub add_in_order-b-requires-clause-samples : goal.add_in_order-b-requires-clause-samples
add_in_order-b-requires-clause-samples c = c.requires.samples

pub add_in_order-b-requires-clause-products : goal.add_in_order-b-requires-clause-products
add_in_order-b-requires-clause-products c = c.requires.products

pub add_in_order-b-requires-clause-before : goal.add_in_order-b-requires-clause-before
add_in_order-b-requires-clause-before c = c.loop-group.invariant.b

pub are_below-requires-clause-b : goal.are_below-requires-clause-b
are_below-requires-clause-b c = c.loop-group.invariant.b.four

pub are_below-requires-clause-b_halves : goal.are_below-requires-clause-b_halves
are_below-requires-clause-b_halves c = c.loop-group.invariant.b.within

pub add_newer-b-requires-clause-products : goal.add_newer-b-requires-clause-products
add_newer-b-requires-clause-products c =
    let f : FitsSigned w16 (word_at c.args.coefficients.now c.loop-tap.tap) = search rules in
    coefficient_halves c.args.coefficients.now c.args.line.now _ f c.requires.products

pub add_newer-c-requires-clause-samples : goal.add_newer-c-requires-clause-samples
add_newer-c-requires-clause-samples c = c.requires.samples

pub add_newer-c-requires-clause-four : goal.add_newer-c-requires-clause-four
add_newer-c-requires-clause-four c = c.loop-tap.invariant.c.four

pub add_newer-c-requires-clause-within : goal.add_newer-c-requires-clause-within
add_newer-c-requires-clause-within c = c.loop-tap.invariant.c.within

pub add_together-c-requires-clause-samples : goal.add_together-c-requires-clause-samples
add_together-c-requires-clause-samples c = c.requires.samples

pub add_in_order-c-requires-clause-samples : goal.add_in_order-c-requires-clause-samples
add_in_order-c-requires-clause-samples c = c.requires.samples

pub add_in_order-c-requires-clause-products : goal.add_in_order-c-requires-clause-products
add_in_order-c-requires-clause-products c = c.requires.products

pub add_in_order-c-requires-clause-before : goal.add_in_order-c-requires-clause-before
add_in_order-c-requires-clause-before c = c.loop-group.invariant.c

pub are_below-requires-clause-c : goal.are_below-requires-clause-c
are_below-requires-clause-c c = c.loop-group.invariant.c.four

pub are_below-requires-clause-c_halves : goal.are_below-requires-clause-c_halves
are_below-requires-clause-c_halves c = c.loop-group.invariant.c.within

pub add_newer-c-requires-clause-products : goal.add_newer-c-requires-clause-products
add_newer-c-requires-clause-products c =
    let f : FitsSigned w16 (word_at c.args.coefficients.now c.loop-tap.tap) = search rules in
    coefficient_halves c.args.coefficients.now c.args.line.now _ f c.requires.products

pub add_newer-d-requires-clause-samples : goal.add_newer-d-requires-clause-samples
add_newer-d-requires-clause-samples c = c.requires.samples

pub add_newer-d-requires-clause-four : goal.add_newer-d-requires-clause-four
add_newer-d-requires-clause-four c = c.loop-tap.invariant.d.four

pub add_newer-d-requires-clause-within : goal.add_newer-d-requires-clause-within
add_newer-d-requires-clause-within c = c.loop-tap.invariant.d.within

pub add_together-d-requires-clause-samples : goal.add_together-d-requires-clause-samples
add_together-d-requires-clause-samples c = c.requires.samples

pub add_in_order-d-requires-clause-samples : goal.add_in_order-d-requires-clause-samples
add_in_order-d-requires-clause-samples c = c.requires.samples

pub add_in_order-d-requires-clause-products : goal.add_in_order-d-requires-clause-products
add_in_order-d-requires-clause-products c = c.requires.products

pub add_in_order-d-requires-clause-before : goal.add_in_order-d-requires-clause-before
add_in_order-d-requires-clause-before c = c.loop-group.invariant.d

pub are_below-requires-clause-d : goal.are_below-requires-clause-d
are_below-requires-clause-d c = c.loop-group.invariant.d.four

pub are_below-requires-clause-d_halves : goal.are_below-requires-clause-d_halves
are_below-requires-clause-d_halves c = c.loop-group.invariant.d.within

pub add_newer-d-requires-clause-products : goal.add_newer-d-requires-clause-products
add_newer-d-requires-clause-products c =
    let f : FitsSigned w16 (word_at c.args.coefficients.now c.loop-tap.tap) = search rules in
    coefficient_halves c.args.coefficients.now c.args.line.now _ f c.requires.products

pub add_newer-a-requires-clause-reach : goal.add_newer-a-requires-clause-reach
add_newer-a-requires-clause-reach c = omega (arith, c.requires.reach, c.requires.some, c.loop-tap-test.true)

pub add_together-a-requires-clause-reach : goal.add_together-a-requires-clause-reach
add_together-a-requires-clause-reach c = omega (arith, c.requires.reach, c.loop-group-test.true)

pub add_in_order-a-requires-clause-reach : goal.add_in_order-a-requires-clause-reach
add_in_order-a-requires-clause-reach c = omega (arith, c.requires.reach)

pub add_in_order-a-requires-clause-tap : goal.add_in_order-a-requires-clause-tap
add_in_order-a-requires-clause-tap c = omega (arith, c.loop-group-test.true)

pub add_together-a-requires-clause-taps : goal.add_together-a-requires-clause-taps
add_together-a-requires-clause-taps c =
    let tap = length c.args.coefficients.now % 8 + 8 * c.loop-group.group in
    part_length c.args.coefficients.now tap (tap + 8) (omega (arith, c.loop-group-test.true)) (omega arith) ∙ omega arith

pub add_newer-b-requires-clause-reach : goal.add_newer-b-requires-clause-reach
add_newer-b-requires-clause-reach c = omega (arith, c.requires.reach, c.requires.some, c.loop-tap-test.true)

pub add_together-b-requires-clause-reach : goal.add_together-b-requires-clause-reach
add_together-b-requires-clause-reach c = omega (arith, c.requires.reach, c.loop-group-test.true)

pub add_in_order-b-requires-clause-reach : goal.add_in_order-b-requires-clause-reach
add_in_order-b-requires-clause-reach c = omega (arith, c.requires.reach)

pub add_in_order-b-requires-clause-tap : goal.add_in_order-b-requires-clause-tap
add_in_order-b-requires-clause-tap c = omega (arith, c.loop-group-test.true)

pub add_together-b-requires-clause-taps : goal.add_together-b-requires-clause-taps
add_together-b-requires-clause-taps c =
    let tap = length c.args.coefficients.now % 8 + 8 * c.loop-group.group in
    part_length c.args.coefficients.now tap (tap + 8) (omega (arith, c.loop-group-test.true)) (omega arith) ∙ omega arith

pub add_newer-c-requires-clause-reach : goal.add_newer-c-requires-clause-reach
add_newer-c-requires-clause-reach c = omega (arith, c.requires.reach, c.requires.some, c.loop-tap-test.true)

pub add_together-c-requires-clause-reach : goal.add_together-c-requires-clause-reach
add_together-c-requires-clause-reach c = omega (arith, c.requires.reach, c.loop-group-test.true)

pub add_in_order-c-requires-clause-reach : goal.add_in_order-c-requires-clause-reach
add_in_order-c-requires-clause-reach c = omega (arith, c.requires.reach)

pub add_in_order-c-requires-clause-tap : goal.add_in_order-c-requires-clause-tap
add_in_order-c-requires-clause-tap c = omega (arith, c.loop-group-test.true)

pub add_together-c-requires-clause-taps : goal.add_together-c-requires-clause-taps
add_together-c-requires-clause-taps c =
    let tap = length c.args.coefficients.now % 8 + 8 * c.loop-group.group in
    part_length c.args.coefficients.now tap (tap + 8) (omega (arith, c.loop-group-test.true)) (omega arith) ∙ omega arith

pub add_newer-d-requires-clause-reach : goal.add_newer-d-requires-clause-reach
add_newer-d-requires-clause-reach c = omega (arith, c.requires.reach, c.requires.some, c.loop-tap-test.true)

pub add_together-d-requires-clause-reach : goal.add_together-d-requires-clause-reach
add_together-d-requires-clause-reach c = omega (arith, c.requires.reach, c.loop-group-test.true)

pub add_in_order-d-requires-clause-reach : goal.add_in_order-d-requires-clause-reach
add_in_order-d-requires-clause-reach c = omega (arith, c.requires.reach)

pub add_in_order-d-requires-clause-tap : goal.add_in_order-d-requires-clause-tap
add_in_order-d-requires-clause-tap c = omega (arith, c.loop-group-test.true)

pub add_together-d-requires-clause-taps : goal.add_together-d-requires-clause-taps
add_together-d-requires-clause-taps c =
    let tap = length c.args.coefficients.now % 8 + 8 * c.loop-group.group in
    part_length c.args.coefficients.now tap (tap + 8) (omega (arith, c.loop-group-test.true)) (omega arith) ∙ omega arith
