use Rattle.std.proofs.Common.{◌≡◌, ◌≢◌, ◌+◌, ◌-◌, ℕ, ℤ, pos, List, length, to_z, w16, arith, sym, ◌∙◌, ap, subst, get_or-set_other}
use Rattle.std.proofs.Math.ListN.{set}
use Rattle.std.proofs.lemmas.Int.{to_z_pos}
use Rattle.ialg.specs.History.{word_at, past, with_samples}
use Rattle.ialg.proofs.Blocks.{front_of_room}
use Rattle.fir_kernel.specs.Rings.{IsRing}
use Rattle.alg_fir.specs.Keeps.{AreOutputs}
use Rattle.alg_fir.proofs.Steps.{ran, outputs_are}
use Rattle.alg_fir.proofs.Rings.{placed_at}
use Rattle.alg_fir.proofs.delay.run_line.Goals as goal

pub returns-clause-law : goal.returns-clause-law
returns-clause-law g c p h in_force taps size ring =
    let xs = c.args.input.now in
    let cs = c.args.coefficients.now in
    let words = c.args.ring.now in
    let ys = c.filter.new.out in
    let line = c.place.new.words in
    let entered = c.enter-after.new.words in
    let after = c.enter-after.result in
    let some = c.requires.some in
    let d = length cs - 1 in
    let count : length cs ≡ d + 1 = omega arith in
    let coefficients : length p ≡ d + 1 = omega arith in
    let many : length ys ≡ c.args.taken.count = c.filter.auto.out ∙ c.split_at_mut-outputs.ensures.front_len in
    let written = front_of_room c.set_len.new.self ys c.split_at_mut-outputs.result.1.now (many ∙ sym c.set_len.ensures.len) in
    let less : length p - 1 ≡ d = omega arith in
    let before_ring : IsRing d (length words - 1) words c.args.next h = subst (λ n. IsRing n (length words - 1) words c.args.next h) less ring in
    let before : (j k : ℕ) → j + k + 1 ≡ d → word_at line j ≡ past h k =
    λ j k e.
    let z : j ≡ 0 + j = omega arith in
    c.place.ensures.before j (omega arith) ∙ ap (word_at c.unroll.new.line) z ∙ c.unroll.ensures.samples h before_ring j k e in
    let all : length entered ≡ length words = c.enter-after.auto.words in
    let after_ring : IsRing (length p - 1) (length entered - 1) entered after (with_samples h xs) =
    subst (λ n. IsRing (length p - 1) (n - 1) entered after (with_samples h xs)) (sym all) (c.enter-after.ensures.ring (length p - 1) h (omega arith) ring) in
    let last : length words - 1 ≡ length entered - 1 = omega arith in
    let new = set entered (length words - 1) (to_z w16 after) in
    let small : to_z w16 after ≡ pos after = to_z_pos w16 after (omega arith) in
    let keeps = placed_at (length p) (with_samples h xs) entered after (length words - 1) (to_z w16 after) last small (all ∙ size) after_ring in
    let P : List ℤ → Type 0 = λ zs. AreOutputs p h xs c.args.taken.first c.args.taken.step zs in (
      ran p h xs cs line d coefficients count in_force before c.place.ensures.copied new c.place.ensures.read keeps,
      subst P (sym written)
          (outputs_are p h xs cs line d coefficients count in_force before c.place.ensures.copied ys c.args.taken.first c.args.taken.step
          (λ i b. c.requires.reach i (omega arith)) (λ i b. c.filter.ensures i (omega arith))),
    )

pub returns-clause-stays : goal.returns-clause-stays
returns-clause-stays g c j inside out =
    let all : length c.enter-after.new.words ≡ length c.args.ring.now = c.enter-after.auto.words in
    let ne : j ≢ length c.args.ring.now - 1 = omega arith in
    rw get_or-set_other (c.enter-after.ensures.stays j out)
