use Rattle.std.proofs.Common.{◌+◌, ◌-◌, ◌*◌, ◌∙◌, ℕ, ℤ, pos, ◌+ℤ◌, take, refl, ap, arith, get_or-take}
use Rattle.ialg.specs.History.{word_at}
use Rattle.fir_kernel.proofs.Sums.{product_sum-same}
use Rattle.fir_kernel.proofs.Lanes.{take_fits}
use Rattle.fir_kernel.proofs.Groups.{four_pairs, pair_fits, wrapped_as, wrapped_kept, eight_taps}
use Rattle.fir_kernel.proofs.watched.add_together.Goals as goal

pub add_products-a-requires-clause-words : goal.add_products-a-requires-clause-words
add_products-a-requires-clause-words c = pair_fits _ (eight_taps c.args.taps.now c.requires.taps) (take_fits 8 c.args.taps.now c.requires.words) 1 0 (omega arith) (omega arith)

pub add_products-b-requires-clause-words : goal.add_products-b-requires-clause-words
add_products-b-requires-clause-words c = pair_fits _ (eight_taps c.args.taps.now c.requires.taps) (take_fits 8 c.args.taps.now c.requires.words) 3 2 (omega arith) (omega arith)

pub add_products-c-requires-clause-words : goal.add_products-c-requires-clause-words
add_products-c-requires-clause-words c = pair_fits _ (eight_taps c.args.taps.now c.requires.taps) (take_fits 8 c.args.taps.now c.requires.words) 5 4 (omega arith) (omega arith)

pub add_products-requires-clause-words : goal.add_products-requires-clause-words
add_products-requires-clause-words c = pair_fits _ (eight_taps c.args.taps.now c.requires.taps) (take_fits 8 c.args.taps.now c.requires.words) 7 6 (omega arith) (omega arith)

pub returns : goal.returns
returns c s is =
    let all = c.args.taps.now in
    let taps = take 8 all in
    let line = c.args.line.now in
    let oldest = c.args.oldest in
    let one = c.add_products-a.ensures s (wrapped_kept c.args.sums s is) in
    let two = c.add_products-b.ensures _ (wrapped_kept c.add_products-a.result _ one) in
    let three = c.add_products-c.ensures _ (wrapped_kept c.add_products-b.result _ two) in
    let last = c.add_products.ensures _ (wrapped_kept c.add_products-c.result _ three) in
    wrapped_kept c.add_products.result _
    (wrapped_as c.add_products.result _ _ (λ k b.
    let y : ℕ → ℤ = λ j. word_at line (oldest + 7 + 2 * k - j) in
    four_pairs taps line oldest s (eight_taps all c.requires.taps) (take_fits 8 all c.requires.words) k b
    ∙ ap (λ p. s k +ℤ p) (product_sum-same (word_at taps) (word_at all) y y 8 (λ j h. get_or-take 8 all j (pos 0) h) (λ j h. refl))) last)
