use Rattle.std.proofs.Common.{◌≡◌, ◌+ℤ◌, ◌*ℤ◌, FitsSigned, to_z, of_z, ◌+◌, ◌%◌, rules, w16, w32, ap, ◌∙◌}
use Rattle.std.specs.Int.{int_wrap}
use Rattle.std.proofs.lemmas.Int.{wraps, to_z-of_z}
use Rattle.fir_kernel.proofs.bounded.add_product.Goals as goal

pub returns : goal.returns
returns c =
    let f : FitsSigned w32 c.product.result = search rules in
    let a : FitsSigned w16 c.args.tap = c.ranges.tap in
    let b : FitsSigned w16 c.args.sample = c.ranges.sample in
    let e : c.product.result ≡ c.args.tap *ℤ c.args.sample = simp to_z-of_z at c.product.ensures.value in
    let added : to_z w32 ((of_z w32 c.args.sum + of_z w32 c.product.result) % 4294967296) ≡ int_wrap w32 (c.args.sum +ℤ c.product.result) = search (rules, wraps) in
    added ∙ ap (λ z. int_wrap w32 (c.args.sum +ℤ z)) e
