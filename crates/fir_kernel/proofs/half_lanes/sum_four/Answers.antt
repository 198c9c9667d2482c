use Rattle.std.proofs.Common.{◌≡◌, ◌+◌, ◌*◌, ◌%◌, length, arith}
use Rattle.fir_kernel.proofs.HalfLanes.{halved_kept, none_written, four_written}
use Rattle.fir_kernel.proofs.half_lanes.sum_four.Goals as goal

pub loop-pair-init : goal.loop-pair-init
loop-pair-init c = halved_kept c.begin-halves.result _ c.begin-halves.ensures

pub loop-pair-preserved : goal.loop-pair-preserved
loop-pair-preserved c = halved_kept c.add_pair-halves.result _ c.add_pair-halves.ensures

pub returns : goal.returns
returns c =
    let cs = c.args.coefficients.now in
    let line = c.args.line.now in
    let first = c.args.first in
    let at = c.args.at in
    let old = c.args.sums.now in
    let taps = length cs % 2 + 2 * c.loop-pair.pair in
    let all : taps ≡ length cs = omega arith in
    let none = none_written cs line old first at c.requires.halves in
    four_written cs line old _ c.write-end.new.sums _ first at 0 taps at first all (omega arith) (omega arith) none c.write-end.ensures.written c.loop-pair.invariant
