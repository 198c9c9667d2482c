use Rattle.std.proofs.Common.{of_z, w32}
use Rattle.fir_kernel.specs.declared.windows.TheConstants.{HALF_STEP}
use Rattle.fir_kernel.proofs.Rounding.{nearest_fits, of_both, low_rounded, high_rounded}
use Rattle.fir_kernel.proofs.windows.round_eight.Goals as goal

pub overflow_cast-result : goal.overflow_cast-result
overflow_cast-result c =
    let low = c.args.low in
    let high = c.args.high in (
      nearest_fits (of_both low high 0) (of_z w32 HALF_STEP),
      (
        nearest_fits (of_both low high 1) (of_z w32 HALF_STEP),
        (
          nearest_fits (of_both low high 2) (of_z w32 HALF_STEP),
          (
            nearest_fits (of_both low high 3) (of_z w32 HALF_STEP),
            (nearest_fits (of_both low high 4) (of_z w32 HALF_STEP), (nearest_fits (of_both low high 5) (of_z w32 HALF_STEP), (nearest_fits (of_both low high 6) (of_z w32 HALF_STEP), (nearest_fits (of_both low high 7) (of_z w32 HALF_STEP), tt)))),
          ),
        ),
      ),
    )

pub returns-clause-low : goal.returns-clause-low
returns-clause-low c = low_rounded c.args.low c.args.high c.requires.low_four c.requires.low_halves

pub returns-clause-high : goal.returns-clause-high
returns-clause-high c = high_rounded c.args.low c.args.high c.requires.low_four c.requires.high_four c.requires.high_halves
