use Rattle.std.proofs.Common.{◌≡◌, ◌≤◌, ◌*◌, ◌+◌, ◌∙◌, length, arith}
use Rattle.fir_kernel.proofs.Bounding.{zeros_at, half_of_window}
use Rattle.fir_kernel.proofs.bounded.filter_bounded.Goals as goal
use Rattle.fir_kernel.proofs.bounded.filter_bounded.Goals.{then-coefficients-le-LANES, else-coefficients-le-LANES}

pub filter_windows-requires-clause-halves : goal.filter_windows-requires-clause-halves
filter_windows-requires-clause-halves c i b =
    let cs = c.args.coefficients.now in
    let taps = c.reverse.new.taps in
    let all : length taps ≡ 64 = c.reverse.auto.taps in
    let m = 32 * c.if-coefficients-le-LANES.runs in
    let size : (length cs ≤ m) × (m ≤ length taps) =
    elim c.if-coefficients-le-LANES.branch [
      | then-coefficients-le-LANES w ↦ (omega arith, omega arith)
      | else-coefficients-le-LANES w ↦ (omega arith, omega arith)
    ] in
    let half =
    half_of_window cs c.args.line.now c.args.last c.requires.bounded taps m c.requires.some size
    c.reverse.ensures.reversed (λ j h. c.reverse.ensures.rest j h ∙ zeros_at 64 j) (c.args.first + c.args.step * i) (c.requires.last i b) in
    let small = half.0 in
    omega arith

pub returns : goal.returns
returns c i b =
    let cs = c.args.coefficients.now in
    let taps = c.reverse.new.taps in
    let all : length taps ≡ 64 = c.reverse.auto.taps in
    let m = 32 * c.if-coefficients-le-LANES.runs in
    let size : (length cs ≤ m) × (m ≤ length taps) =
    elim c.if-coefficients-le-LANES.branch [
      | then-coefficients-le-LANES w ↦ (omega arith, omega arith)
      | else-coefficients-le-LANES w ↦ (omega arith, omega arith)
    ] in
    let half =
    half_of_window cs c.args.line.now c.args.last c.requires.bounded taps m c.requires.some size
    c.reverse.ensures.reversed (λ j h. c.reverse.ensures.rest j h ∙ zeros_at 64 j) (c.args.first + c.args.step * i) (c.requires.last i b) in
    c.filter_windows.ensures.rounded i _ b half.1
