use Rattle.std.proofs.Common.{◌≡◌, ◌+◌, List, ℤ, take, length, add-one, rules, ap, ◌∙◌, subst, sym, arith}
use Rattle.std.proofs.lemmas.Int.{to_z-of_z}
use mir.Val.{SFits}
use mir.Syntax.{w16}
use Rattle.ialg.specs.History.{word_at}
use Rattle.ialg.proofs.Histories.{fits_more}
use Rattle.kind_steps.specs.Recursions.{state_after}
use Rattle.kind_steps.proofs.Recursions.{Gives, gives_none, gives_more, ran}
use Rattle.kind_steps.proofs.recursion.run.Goals as goal

pub loop-x-init : goal.loop-x-init
loop-x-init g c =
    let R = g.K.Recursion in
    record {
      count = rw c.requires.empty (omega arith);
      fit = λ k b. absurd (omega arith);
      gives = λ h state.
          rw c.requires.empty (gives_none R.first R.taken c.args.tuning h c.args.input.now c.read-state.result
          (c.read-state.ensures (state_after R.first R.taken c.args.tuning h) state));
    }

pub loop-x-preserved : goal.loop-x-preserved
loop-x-preserved g c =
    let R = g.K.Recursion in
    let xs = c.args.input.now in
    let i = c.loop-x.x-index in
    let after = c.take-next.result in
    let fx : SFits w16 (word_at xs i) = search rules in
    let ex = to_z-of_z w16 (word_at xs i) fx in
    let value = rw ex at c.take-next.ensures in
    let fy : SFits w16 after.1 = search rules in
    let ey = to_z-of_z w16 after.1 fy in
    let pushed = rw ey at c.push.ensures.items in
    record {
      count = c.push.ensures.len ∙ ap (λ n. n + 1) c.loop-x.invariant.count;
      fit = fits_more xs i c.loop-x.invariant.fit fx;
      gives = λ h state.
          let more = gives_more R.first R.taken c.args.tuning h xs c.loop-x.out.items i c.loop-x.state after c.loop-x-test.true (c.loop-x.invariant.gives h state) value in
          let P : List ℤ → Type 0 = λ ys. Gives R.first R.taken c.args.tuning h (take (i + 1) xs) after.0 ys in
          subst P (sym pushed) (rw add-one more);
    }

pub returns-clause-law : goal.returns-clause-law
returns-clause-law g c h state =
    let R = g.K.Recursion in
    let xs = c.args.input.now in
    let i = c.loop-x.x-index in
    let whole : i ≡ length xs = omega arith in
    ran R.first R.taken c.args.tuning R.words_of h xs c.write.new.words c.loop-x.out.items i c.loop-x.state whole c.loop-x.invariant.fit (c.loop-x.invariant.gives h state) c.write.ensures
