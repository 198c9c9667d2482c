use Rattle.std.proofs.Common.{◌-◌, ◌+◌, drop, take}
use Rattle.fir_kernel.proofs.Lanes.{all_widened, take_fits, drop_fits, added_window}
use Rattle.fir_kernel.proofs.windows.add_products.Goals as goal

pub overflow_cast-taps : goal.overflow_cast-taps
overflow_cast-taps c = all_widened _ (take_fits 16 c.args.taps.now c.requires.words)

pub overflow_cast-samples : goal.overflow_cast-samples
overflow_cast-samples c =
    let at = c.args.at in
    all_widened _ (take_fits 16 (take (at + 16 - at) (drop at c.args.line.now)) (take_fits (at + 16 - at) (drop at c.args.line.now) (drop_fits at c.args.line.now c.requires.samples)))

pub returns : goal.returns
returns c sum is =
    added_window c.args.sums c.args.taps.now c.args.line.now c.args.at sum is c.requires.taps c.requires.line
    c.requires.words c.requires.samples
