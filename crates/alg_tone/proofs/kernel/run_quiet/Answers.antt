use Rattle.std.proofs.Common.{◌≡◌, refl, ◌+◌, ◌∙◌, ap, of_z, add-one, rules, arith, to_z}
use Rattle.std.proofs.lemmas.Int.{to_z-of_z, fits_signed_from_abs}
use mir.Val.{SFits}
use mir.Syntax.{w16, w32}
use Rattle.ialg.specs.History.{word_at}
use Rattle.ialg.proofs.Histories.{fits_more}
use Rattle.alg_tone.specs.Equation.{tone_value}
use Rattle.alg_tone.proofs.Steps.{gives_start, gives_within}
use Rattle.alg_tone.proofs.kernel.run_quiet.Goals as goal

pub loop-x-init : goal.loop-x-init
loop-x-init c =
    let v1 = c.args.start.v1 in
    let v2 = c.args.start.v2 in
    let f1 : SFits w16 v1 = search rules in
    let f2 : SFits w16 v2 = search rules in
    let e1 : to_z w32 (of_z w32 c.from-v1.result) ≡ v1 = to_z-of_z w32 c.from-v1.result (record { sfits = c.from-v1.type_inv }) ∙ c.from-v1.ensures ∙ to_z-of_z w16 v1 f1 in
    let e2 : to_z w32 (of_z w32 c.from-v2.result) ≡ v2 = to_z-of_z w32 c.from-v2.result (record { sfits = c.from-v2.type_inv }) ∙ c.from-v2.ensures ∙ to_z-of_z w16 v2 f2 in
    record {
      count = refl;
      quiet = c.is_quiet.ensures c.if-not-is_quiet.false;
      word = rw e2 f2;
      fit = λ k none. absurd (omega arith);
      gives = λ p h tuned frame inside. gives_start p h c.args.start _ _ frame e1 e2;
    }

pub loop-x-preserved : goal.loop-x-preserved
loop-x-preserved c =
    let xs = c.args.input.now in
    let i = c.loop-x.x-index in
    let t = c.args.tuning in
    let v1 = c.loop-x.v1 in
    let v2 = c.loop-x.v2 in
    let v = c.in-Some.v in
    let quiet = c.loop-x.invariant.quiet in
    let fx : SFits w16 (word_at xs i) = search rules in
    let fv : SFits w32 v = search rules in
    let value : v ≡ tone_value t.factor t.shift (word_at xs i) v1 v2 =
    rw (to_z-of_z w16 (word_at xs i) fx, c.loop-x.v1-is, c.loop-x.v2-is) at c.in-Some.ensures.value in
    record {
      count = ap (λ n. n + 1) c.loop-x.invariant.count;
      quiet = rw (to_z-of_z w32 v fv) c.in-Some.ensures.quiet;
      word = fits_signed_from_abs w16 (to_z w32 c.loop-x.v1-bits) (omega (arith, quiet));
      fit = fits_more xs i c.loop-x.invariant.fit fx;
      gives = λ p h tuned frame inside.
          let before = rw (c.loop-x.v1-is, c.loop-x.v2-is) at (c.loop-x.invariant.gives p h tuned frame inside) in
          rw (add-one, to_z-of_z w32 v fv, c.loop-x.v1-is) (gives_within p h xs i t v1 v2 v c.loop-x-test.true tuned inside before value);
    }

pub returns-clause-law : goal.returns-clause-law
returns-clause-law c p h tuned frame inside =
    let quiet = c.loop-x.invariant.quiet in
    let f1 : SFits w16 (to_z w32 c.loop-x.v1-bits) = fits_signed_from_abs w16 (to_z w32 c.loop-x.v1-bits) (omega (arith, quiet)) in
    rw (c.loop-x.invariant.count, to_z-of_z w16 (to_z w32 c.loop-x.v1-bits) f1, to_z-of_z w16 (to_z w32 c.loop-x.v2-bits) c.loop-x.invariant.word)
    (c.loop-x.invariant.gives p h tuned frame inside)

pub returns-clause-count : goal.returns-clause-count
returns-clause-count c = omega (arith, c.loop-x.invariant.count, c.loop-x.auto.x-index-end)

pub returns-clause-fit : goal.returns-clause-fit
returns-clause-fit c k b = c.loop-x.invariant.fit k (omega (arith, c.loop-x.invariant.count, b))

pub returns-then-tuning-lt1-clause-law : goal.returns-then-tuning-lt1-clause-law
returns-then-tuning-lt1-clause-law c p h tuned frame inside =
    let f1 : SFits w16 c.args.start.v1 = search rules in
    let f2 : SFits w16 c.args.start.v2 = search rules in
    gives_start p h c.args.start _ _ frame (to_z-of_z w16 c.args.start.v1 f1) (to_z-of_z w16 c.args.start.v2 f2)
