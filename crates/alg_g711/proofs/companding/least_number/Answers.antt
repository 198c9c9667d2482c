use Rattle.std.proofs.Common.{◌*◌, ◌+◌, ◌/◌, ◌^◌, rules}
use Rattle.alg_g711.proofs.Shifts.{least_next}
use Rattle.alg_g711.proofs.companding.least_number.Goals as goal

pub loop-segment-preserved : goal.loop-segment-preserved
loop-segment-preserved c =
    least_next (λ k. 16 * k + c.args.magnitude / 2 ^ (c.args.finest + k)) c.loop-segment.segment c.loop-segment.least c.min-least.result
    c.loop-segment.invariant c.min-least.ensures

pub returns : goal.returns
returns c = search rules
