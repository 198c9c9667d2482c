use Rattle.std.proofs.Common.{◌≡◌, ◌≢◌, ◌+◌, ◌-◌, ◌<◌, ◌≤◌, ℕ, ℤ, pos, List, length, take, drop, to_z, w16, arith, sym, ◌∙◌, ap, subst, get_or-set_other, get_or-take, get_or-drop}
use Rattle.std.proofs.Math.ListN.{set}
use Rattle.std.proofs.lemmas.Int.{to_z_pos}
use Rattle.ialg.specs.History.{word_at, past, with_samples}
use Rattle.ialg.proofs.Blocks.{front_of_room}
use Rattle.fir_kernel.specs.Rings.{IsRing}
use Rattle.alg_fir.specs.Keeps.{AreOutputs}
use Rattle.alg_fir.proofs.Steps.{ran, outputs_are}
use Rattle.alg_fir.proofs.Rings.{placed_at, straight_at}
use Rattle.alg_fir.proofs.delay.run_straight.Goals as goal

pub returns-clause-law : goal.returns-clause-law
returns-clause-law c p h in_force taps size ring =
    let xs = c.args.input.now in
    let cs = c.args.coefficients.now in
    let words = c.args.ring.now in
    let next = c.args.next in
    let ys = c.filter.new.out in
    let entered = c.enter-after.new.words in
    let after = c.enter-after.result in
    let some = c.requires.some in
    let d = length cs - 1 in
    let m = next - d in
    let line = take (length entered - m) (drop m entered) in
    let all : length entered ≡ length words = c.enter-after.auto.words in
    let at : (j : ℕ) → j < length entered - m → word_at line j ≡ word_at entered (m + j) =
    λ j b. get_or-take (length entered - m) (drop m entered) j (pos 0) b ∙ get_or-drop m entered j (pos 0) in
    let count : length cs ≡ d + 1 = omega arith in
    let coefficients : length p ≡ d + 1 = omega arith in
    let many : length ys ≡ c.args.taken.count = c.filter.auto.out ∙ c.split_at_mut-outputs.ensures.front_len in
    let written = front_of_room c.set_len.new.self ys c.split_at_mut-outputs.result.1.now (many ∙ sym c.set_len.ensures.len) in
    let less : length p - 1 ≡ d = omega arith in
    let fits : next + length xs ≤ length words - 1 = omega arith in
    let before_ring : IsRing d (length words - 1) words next h = subst (λ n. IsRing n (length words - 1) words next h) less ring in
    let before : (j k : ℕ) → j + k + 1 ≡ d → word_at line j ≡ past h k =
    λ j k e.
    at j (omega arith) ∙ c.enter-after.ensures.before fits (m + j) (omega arith)
    ∙ straight_at d (length words - 1) next words h before_ring (m + j) k (omega arith) (omega arith) in
    let block : (k : ℕ) → k < length xs → word_at line (d + k) ≡ word_at xs k =
    λ k b.
    let e : m + (d + k) ≡ next + k = omega arith in
    at (d + k) (omega arith) ∙ ap (word_at entered) e ∙ c.enter-after.ensures.row fits k b in
    let after_ring : IsRing (length p - 1) (length entered - 1) entered after (with_samples h xs) =
    subst (λ n. IsRing (length p - 1) (n - 1) entered after (with_samples h xs)) (sym all) (c.enter-after.ensures.ring (length p - 1) h (omega arith) ring) in
    let last : length words - 1 ≡ length entered - 1 = omega arith in
    let new = set entered (length words - 1) (to_z w16 after) in
    let small : to_z w16 after ≡ pos after = to_z_pos w16 after (omega arith) in
    let keeps = placed_at (length p) (with_samples h xs) entered after (length words - 1) (to_z w16 after) last small (all ∙ size) after_ring in
    let P : List ℤ → Type 0 = λ zs. AreOutputs p h xs c.args.taken.first c.args.taken.step zs in (
      ran p h xs cs line d coefficients count in_force before block new c.enter-after.ensures.read keeps,
      subst P (sym written)
          (outputs_are p h xs cs line d coefficients count in_force before block ys c.args.taken.first c.args.taken.step
          (λ i b. c.requires.reach i (omega arith)) (λ i b. c.filter.ensures i (omega arith))),
    )

pub returns-clause-stays : goal.returns-clause-stays
returns-clause-stays c j inside out =
    let all : length c.enter-after.new.words ≡ length c.args.ring.now = c.enter-after.auto.words in
    let ne : j ≢ length c.args.ring.now - 1 = omega arith in
    rw get_or-set_other (c.enter-after.ensures.stays j out)
