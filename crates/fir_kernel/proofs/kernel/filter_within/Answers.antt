use Rattle.std.proofs.lemmas.Grind.{elements}
use Rattle.std.proofs.Common.{◌≤◌, ◌-◌, ◌*◌, ◌∙◌, length, arith}
use Rattle.std.proofs.lemmas.Nat.{mul-le}
use Rattle.fir_kernel.proofs.Parts.{filtered_within, part_quiet}
use Rattle.fir_kernel.proofs.kernel.filter_within.Goals as goal

pub filter_bounded-requires-clause-bounded : goal.filter_bounded-requires-clause-bounded
filter_bounded-requires-clause-bounded g c = grind arith

pub filter_limited-requires-clause-quiet : goal.filter_limited-requires-clause-quiet
filter_limited-requires-clause-quiet g c = part_quiet c.args.line.now c.args.first _ _ c.bound-is_bounded.ensures.quiet

pub returns-else-is_bounded : goal.returns-else-is_bounded
returns-else-is_bounded g c i b =
    let last = length c.args.out.now - 1 in
    let before : i ≤ last = omega arith in
    c.filter_limited.ensures i b
    ∙ filtered_within c.args.coefficients.now c.args.line.now c.args.first c.args.step (c.args.step * last) i c.requires.some (mul-le c.args.step i c.args.step last (omega arith) before)

pub output_bounded-requires-clause-bounded : goal.output_bounded-requires-clause-bounded
output_bounded-requires-clause-bounded g c = grind (arith, elements)
