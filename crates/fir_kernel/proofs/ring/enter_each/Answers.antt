use Rattle.std.proofs.Common.{◌≡◌, ◌≢◌, ◌<◌, ◌≤◌, ◌+◌, suc, pos, ◌∷◌, length, take, FitsSigned, rules, w16, inl, inr, ◌%◌, arith, ap, sym, ◌∙◌, below_more, get_or-set_other, get_or-set_same}
use Rattle.std.proofs.lemmas.Int.{to_z-of_z}
use Rattle.std.proofs.lemmas.Grind.{common_steps}
use Rattle.ialg.specs.History.{Sample, with_samples, word_at}
use Rattle.ialg.proofs.Histories.{with_samples-take, with_samples-whole}
use Rattle.fir_kernel.proofs.RingLemmas.{Turns, entered, turned}
use Rattle.fir_kernel.proofs.ring.enter_each.Goals as goal
use Rattle.fir_kernel.proofs.ring.enter_each.Goals.{then-at-size, else-at-size}

pub loop-sample-preserved : goal.loop-sample-preserved
loop-sample-preserved c =
    let xs = c.args.samples.now in
    let i = c.loop-sample.sample-index in
    let x = word_at xs i in
    let next = c.args.next in
    let here = c.loop-sample.invariant.within in
    let f : FitsSigned w16 (word_at xs i) = search rules in
    let more : i < length xs = omega arith in
    let both : (c.if-at-size.at < c.args.size) × Turns c.args.size c.loop-sample.at c.if-at-size.at =
    elim c.if-at-size.branch [
      | then-at-size w ↦ (omega arith, inl (omega arith))
      | else-at-size w ↦ (omega arith, inr (omega arith, omega arith))
    ] in
    record {
      within = both.0;
      turned = ap (λ n. n % c.args.size) (omega arith) ∙ turned (next + i) c.args.size c.loop-sample.at c.if-at-size.at both.0 both.1 c.loop-sample.invariant.turned;
      stays = λ j out.
          let ne : j ≢ c.loop-sample.at = λ e. out i (omega arith) (c.loop-sample.invariant.turned ∙ sym e) in
          rw get_or-set_other (c.loop-sample.invariant.stays j (λ k b. out k (omega arith)));
      ring = λ count h few old.
          let step : i + 1 ≡ suc i = omega arith in
          let e : with_samples h (take (i + 1) xs) ≡ Sample (word_at xs i) ∷ with_samples h (take i xs) =
          ap (λ n. with_samples h (take n xs)) step ∙ with_samples-take h xs i more in
          let room : c.args.size ≤ length c.loop-sample.words = omega arith in
          rw (to_z-of_z w16 x f, e)
          (entered count c.args.size c.loop-sample.at c.if-at-size.at c.loop-sample.words (with_samples h (take i xs)) x few room both.0 both.1
          (c.loop-sample.invariant.ring count h few old));
      straight = λ fits further.
          let at = c.loop-sample.invariant.straight fits more in
          elim c.if-at-size.branch [
            | then-at-size w ↦ omega arith
            | else-at-size w ↦ absurd (omega arith)
          ];
      row = λ fits.
          let at = c.loop-sample.invariant.straight fits more in
          let inside : c.loop-sample.at < length c.loop-sample.words = omega arith in
          rw (to_z-of_z w16 x f)
          (below_more _ _ (λ k h. let ne : next + k ≢ c.loop-sample.at = omega arith in rw get_or-set_other (c.loop-sample.invariant.row fits k h))
          (rw (← at) (get_or-set_same c.loop-sample.words c.loop-sample.at x (pos 0) inside)));
      before = λ fits k h.
          let at = c.loop-sample.invariant.straight fits more in
          let ne : k ≢ c.loop-sample.at = omega arith in
          rw get_or-set_other (c.loop-sample.invariant.before fits k h);
      read = λ k d h. grind (arith, common_steps, c.loop-sample.invariant.read);
    }

pub returns : goal.returns
returns c =
    let xs = c.args.samples.now in
    let last = c.loop-sample.invariant in
    let all : c.loop-sample.sample-index ≡ length xs = omega arith in
    record {
      within = last.within;
      ring = λ count h few old.
          let e : with_samples h (take c.loop-sample.sample-index xs) ≡ with_samples h xs = ap (λ n. with_samples h (take n xs)) all ∙ with_samples-whole h xs in
          rw e at (last.ring count h few old);
      stays = λ j out. last.stays j (λ k b. out k (omega arith));
      row = λ fits k b. last.row fits k (omega arith);
      before = last.before;
      read = λ k d b. last.read k d (omega arith);
    }
