use Rattle.std.proofs.Common.{◌≡◌, ◌+◌, ◌-◌, ◌<◌, ℕ, List, ℤ, pos, take, drop, length, add-one, rules, ap, ◌∙◌, subst, sym, arith, get_or-take, get_or-drop, length-take, length-drop}
use Rattle.std.proofs.lemmas.Int.{to_z-of_z}
use mir.Val.{SFits, to_z, of_z}
use mir.Syntax.{w16}
use Rattle.ialg.specs.History.{word_at}
use Rattle.ialg.proofs.Histories.{fits_more}
use Rattle.alg_biquad.specs.Keeps.{Gives}
use Rattle.alg_biquad.proofs.Steps.{newest_of, gives_more, ran}
use Rattle.alg_biquad.proofs.kernel.run_block.Goals as goal

pub loop-x-init : goal.loop-x-init
loop-x-init c =
    let read = c.read-newest.ensures in
    record {
      count = omega arith;
      fit = c.run_plain-newest.ensures.fit;
      ran = λ p h in_force state. c.run_plain-newest.ensures.law p h in_force (newest_of p h c.args.state.now c.read-newest.result read.x1 read.x2 read.y1 read.y2 state);
    }

pub loop-x-preserved : goal.loop-x-preserved
loop-x-preserved c =
    let xs = c.args.input.now in
    let n = c.len.result in
    let k = c.loop-x.x-index in
    let i = length c.loop-x.out.items in
    let y = c.limited_output-y.result in
    let rest = take (length xs - n) (drop n xs) in
    let inside : k < length xs - n = let test = simp (length-take, length-drop) at c.loop-x-test.true in omega (arith, test) in
    let at : n + k ≡ i = let e = c.len.ensures.value in let count = c.loop-x.invariant.count in omega (arith, e, count) in
    let same : word_at rest k ≡ word_at xs i = get_or-take (length xs - n) (drop n xs) k (pos 0) inside ∙ get_or-drop n xs k (pos 0) ∙ ap (word_at xs) at in
    let below : i < length xs = omega (arith, inside, at) in
    let fr : SFits w16 (word_at rest k) = search rules in
    let fx : SFits w16 (word_at xs i) = subst (SFits w16) same fr in
    let fy : SFits w16 y = search rules in
    let ex : to_z w16 (of_z w16 (word_at rest k)) ≡ word_at xs i = to_z-of_z w16 (word_at rest k) fr ∙ same in
    let ey : to_z w16 (of_z w16 y) ≡ y = to_z-of_z w16 y fy in
    let value = rw ex at c.limited_output-y.ensures in
    let pushed = rw ey at c.push.ensures.items in
    let after = c.shift.ensures in
    record {
      count = c.push.ensures.len ∙ omega (arith, at);
      fit = λ j b. fits_more xs i c.loop-x.invariant.fit fx j (subst (λ m. j < m) c.push.ensures.len b);
      ran = λ p h in_force state.
          let more = gives_more p h c.args.coefficients.now xs c.loop-x.out.items i c.loop-x.newest c.shift.new.self y
          below in_force (c.loop-x.invariant.ran p h in_force state) value
          (after.x1 ∙ ex) after.x2 (after.y1 ∙ ey) after.y2 in
          let P : ℕ → List ℤ → Type 0 = λ m ys. Gives p h (take m xs) c.shift.new.self ys in
          subst (λ m. P m c.push.new.self.items) (sym c.push.ensures.len) (subst (P (i + 1)) (sym pushed) (rw add-one more));
    }

pub returns-clause-law : goal.returns-clause-law
returns-clause-law c p h in_force state =
    let xs = c.args.input.now in
    let ys = c.loop-x.out.items in
    let whole : length ys ≡ length xs = search rules in
    ran p h xs c.write.new.words ys (length ys) c.loop-x.newest whole c.loop-x.invariant.fit (c.loop-x.invariant.ran p h in_force state) c.write.ensures
