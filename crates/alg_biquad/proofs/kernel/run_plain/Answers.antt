use Rattle.std.proofs.Common.{◌≡◌, ◌+◌, ◌∷◌, [], zero, suc, List, ℕ, ℤ, take, add-one, rules, refl, ap, ◌∙◌, subst, sym, arith}
use Rattle.std.proofs.lemmas.Int.{to_z-of_z, fits_signed_from_abs}
use mir.Val.{SFits, to_z, of_z}
use mir.Syntax.{w16}
use Rattle.ialg.specs.History.{word_at}
use Rattle.ialg.proofs.Histories.{fits_more}
use Rattle.alg_biquad.specs.Equation.{biquad_value}
use Rattle.alg_biquad.specs.Halves.{AreAboveLeast}
use Rattle.alg_biquad.specs.Keeps.{Gives}
use Rattle.alg_biquad.specs.declared.kernel.State.{State}
use Rattle.alg_biquad.proofs.Steps.{gives_none, gives_more}
use Rattle.alg_biquad.proofs.kernel.run_plain.Goals as goal

pub loop-x-preserved : goal.loop-x-preserved
loop-x-preserved c =
    let cs = c.args.coefficients.now in
    let xs = c.args.input.now in
    let i = c.loop-x.x-index in
    let y = c.in-Some.y in
    let fx : SFits w16 (word_at xs i) = search rules in
    let fy : SFits w16 y = search rules in
    let ex : to_z w16 (of_z w16 (word_at xs i)) ≡ word_at xs i = to_z-of_z w16 (word_at xs i) fx in
    let ey : to_z w16 (of_z w16 y) ≡ y = to_z-of_z w16 y fy in
    let s = c.loop-x.newest in
    let after = c.shift.ensures in
    let own : (k : ℕ) → SFits w16 (word_at cs k) → to_z w16 (of_z w16 (word_at cs k)) ≡ word_at cs k = λ k. to_z-of_z w16 (word_at cs k) in
    let value : y ≡ biquad_value (word_at cs) (word_at xs i) s.x1 s.x2 s.y1 s.y2 =
    rw (ex, own 0 (search rules), own 1 (search rules), own 2 (search rules), own 3 (search rules), own 4 (search rules)) at c.in-Some.ensures in
    let pushed = rw ey at c.push.ensures.items in
    record {
      count = c.push.ensures.len ∙ ap (λ n. n + 1) c.loop-x.invariant.count;
      fit = fits_more xs i c.loop-x.invariant.fit fx;
      ran = λ p h in_force newest.
          let more = gives_more p h cs xs c.loop-x.out.items i s c.shift.new.self y
          c.loop-x-test.true in_force (c.loop-x.invariant.ran p h in_force newest) value
          (after.x1 ∙ ex) after.x2 (after.y1 ∙ ey) after.y2 in
          let P : List ℤ → Type 0 = λ ys. Gives p h (take (i + 1) xs) c.shift.new.self ys in
          subst P (sym pushed) (rw add-one more);
    }

-- the four words, each of which fits
whole : (s : State) → SFits w16 s.x1 → SFits w16 s.x2 → SFits w16 s.y1 → SFits w16 s.y2
    → (record { x1 = to_z w16 (of_z w16 s.x1); x2 = to_z w16 (of_z w16 s.x2); y1 = to_z w16 (of_z w16 s.y1); y2 = to_z w16 (of_z w16 s.y2) }) ≡ s
whole s f1 f2 g1 g2 = rw (to_z-of_z w16 s.x1 f1, to_z-of_z w16 s.x2 f2, to_z-of_z w16 s.y1 g1, to_z-of_z w16 s.y2 g2) refl

pub loop-x-init : goal.loop-x-init
loop-x-init c =
    let s = c.args.state in
    let same = whole s (search rules) (search rules) (search rules) (search rules) in
    rw (same, c.requires.empty) (record {
      count = refl;
      fit = λ k few. absurd (omega (arith, few));
      ran = λ p h in_force newest. gives_none p h c.args.input.now s newest;
    })

pub returns : goal.returns
returns c =
    let s = c.loop-x.newest in
    let same = whole s (search rules) (search rules) (search rules) (search rules) in
    rw (same, c.loop-x.invariant.count) (record {
      count = c.loop-x.auto.x-index-end;
      fit = c.loop-x.invariant.fit;
      law = c.loop-x.invariant.ran;
    })

-- none of five words is the least, nor of their copies
five_above : (cs : List ℤ) → AreAboveLeast cs → AreAboveLeast (word_at cs 0 ∷ word_at cs 1 ∷ word_at cs 2 ∷ word_at cs 3 ∷ word_at cs 4 ∷ [])
five_above cs above zero = above 0
five_above cs above (suc zero) = above 1
five_above cs above (suc (suc zero)) = above 2
five_above cs above (suc (suc (suc zero))) = above 3
five_above cs above (suc (suc (suc (suc zero)))) = above 4
five_above cs above (suc (suc (suc (suc (suc k))))) = omega arith

same_five : (f : ℕ → ℤ) → ((k : ℕ) → to_z w16 (of_z w16 (f k)) ≡ f k)
    → (to_z w16 (of_z w16 (f 0)) ∷ to_z w16 (of_z w16 (f 1)) ∷ to_z w16 (of_z w16 (f 2)) ∷ to_z w16 (of_z w16 (f 3)) ∷ to_z w16 (of_z w16 (f 4)) ∷ [])
    ≡ f 0 ∷ f 1 ∷ f 2 ∷ f 3 ∷ f 4 ∷ []
same_five f same = rw (same 0, same 1, same 2, same 3, same 4) refl

pub plain_output-requires-clause-above : goal.plain_output-requires-clause-above
plain_output-requires-clause-above c =
    let cs = c.args.coefficients.now in
    let above : AreAboveLeast cs = search rules in
    let same : (k : ℕ) → to_z w16 (of_z w16 (word_at cs k)) ≡ word_at cs k =
    λ k. to_z-of_z w16 (word_at cs k) (fits_signed_from_abs w16 (word_at cs k) (let small = above k in omega arith)) in
    subst AreAboveLeast (sym (same_five (word_at cs) same)) (five_above cs above)
