use Rattle.std.proofs.Common.{◌≡◌, ◌+◌, ◌-◌, ◌<◌, ◌∙◌, ℕ, length, to_z, w16, ap, arith}
use Rattle.std.proofs.lemmas.Int.{to_z_pos}
use Rattle.ialg.specs.declared.TheConstants.{BLOCK_SAMPLES}
use Rattle.ialg.specs.History.{word_at}
use Rattle.alg_fir.proofs.Rings.{ring_of_past, placed}
use Rattle.alg_fir.proofs.delay.refill.Goals as goal

pub returns-then-past-ring : goal.returns-then-past-ring
returns-then-past-ring c taps h many few long past =
    let words = c.place.new.words in
    let n = length c.args.past.now in
    let size : length words ≡ taps - 1 + BLOCK_SAMPLES = c.place.auto.words ∙ long in
    let copied : (k : ℕ) → k < n → word_at words k ≡ word_at c.args.past.now k =
    λ k b. let z : k ≡ 0 + k = omega arith in ap (word_at words) z ∙ c.place.ensures.copied k b in
    placed taps h words n (to_z w16 n) (to_z_pos w16 n (omega arith)) size (ring_of_past taps n h c.args.past.now words many size past copied)
