use Rattle.std.proofs.Common.{◌+◌, ◌*◌, ℕ, ℤ, pos, length, map, to_z, of_z, w16, w32, arith}
use Rattle.std.specs.Int.{int_wrap}
use Rattle.std.proofs.lemmas.Simd.{length-put_chunk, get_or-put_chunk_below}
use Rattle.fir_kernel.specs.Windows.{window_sum}
use Rattle.fir_kernel.proofs.Lanes.{kept_window}
use Rattle.fir_kernel.proofs.Rounding.{four_summed, four_halves, eight_rounded}
use Rattle.fir_kernel.proofs.windows.filter_eight.Goals as goal

pub round_eight-requires-clause-low_halves : goal.round_eight-requires-clause-low_halves
round_eight-requires-clause-low_halves g c =
    let taps = c.args.taps.now in
    let line = c.args.line.now in
    let from = c.args.from in
    let step = c.args.step in
    let n = length taps in
    let w : ℕ → ℤ = λ q. window_sum taps line (from + step * q) n in
    let low =
    four_summed w _ _ _ _ c.lane_sums-low.result
    (kept_window taps line c.sum_window-a.result _ (from + step * 0) n (omega arith) c.sum_window-a.ensures)
    (kept_window taps line c.sum_window-b.result _ (from + step * 1) n (omega arith) c.sum_window-b.ensures)
    (kept_window taps line c.sum_window-c.result _ (from + step * 2) n (omega arith) c.sum_window-c.ensures)
    (kept_window taps line c.sum_window-d.result _ (from + step * 3) n (omega arith) c.sum_window-d.ensures)
    c.lane_sums-low.ensures in
    four_halves (λ k. int_wrap w32 (w k)) _ low (λ q b. c.requires.halves q (omega arith))

pub round_eight-requires-clause-high_halves : goal.round_eight-requires-clause-high_halves
round_eight-requires-clause-high_halves g c =
    let taps = c.args.taps.now in
    let line = c.args.line.now in
    let from = c.args.from in
    let step = c.args.step in
    let n = length taps in
    let w : ℕ → ℤ = λ q. window_sum taps line (from + step * q) n in
    let high =
    four_summed (λ k. w (4 + k)) _ _ _ _ c.lane_sums-high.result
    (kept_window taps line c.sum_window-e.result _ (from + step * 4) n (omega arith) c.sum_window-e.ensures)
    (kept_window taps line c.sum_window-f.result _ (from + step * 5) n (omega arith) c.sum_window-f.ensures)
    (kept_window taps line c.sum_window-g.result _ (from + step * 6) n (omega arith) c.sum_window-g.ensures)
    (kept_window taps line c.sum_window-h.result _ (from + step * 7) n (omega arith) c.sum_window-h.ensures)
    c.lane_sums-high.ensures in
    four_halves (λ k. int_wrap w32 (w (4 + k))) _ high (λ q b. c.requires.halves (4 + q) (omega arith))

pub returns : goal.returns
returns g c =
    let taps = c.args.taps.now in
    let line = c.args.line.now in
    let from = c.args.from in
    let step = c.args.step in
    let n = length taps in
    let w : ℕ → ℤ = λ q. window_sum taps line (from + step * q) n in
    let low =
    four_summed w _ _ _ _ c.lane_sums-low.result
    (kept_window taps line c.sum_window-a.result _ (from + step * 0) n (omega arith) c.sum_window-a.ensures)
    (kept_window taps line c.sum_window-b.result _ (from + step * 1) n (omega arith) c.sum_window-b.ensures)
    (kept_window taps line c.sum_window-c.result _ (from + step * 2) n (omega arith) c.sum_window-c.ensures)
    (kept_window taps line c.sum_window-d.result _ (from + step * 3) n (omega arith) c.sum_window-d.ensures)
    c.lane_sums-low.ensures in
    let high =
    four_summed (λ k. w (4 + k)) _ _ _ _ c.lane_sums-high.result
    (kept_window taps line c.sum_window-e.result _ (from + step * 4) n (omega arith) c.sum_window-e.ensures)
    (kept_window taps line c.sum_window-f.result _ (from + step * 5) n (omega arith) c.sum_window-f.ensures)
    (kept_window taps line c.sum_window-g.result _ (from + step * 6) n (omega arith) c.sum_window-g.ensures)
    (kept_window taps line c.sum_window-h.result _ (from + step * 7) n (omega arith) c.sum_window-h.ensures)
    c.lane_sums-high.ensures in
    let out = c.args.out.now in
    let new = map (to_z w16) (map (of_z w16) c.round_eight.result) in
    record {
      size = length-put_chunk c.args.at out new;
      before = λ k b. get_or-put_chunk_below c.args.at out new k (pos 0) b;
      rounded = eight_rounded out c.round_eight.result _ _ c.args.at (λ k. int_wrap w32 (w k)) c.requires.room c.round_eight.ensures.eight low high
          c.round_eight.ensures.low c.round_eight.ensures.high;
    }

pub sum_window-a-requires-clause-words : goal.sum_window-a-requires-clause-words
sum_window-a-requires-clause-words g c = c.requires.words

pub sum_window-a-requires-clause-samples : goal.sum_window-a-requires-clause-samples
sum_window-a-requires-clause-samples g c = c.requires.samples

pub sum_window-a-requires-clause-size : goal.sum_window-a-requires-clause-size
sum_window-a-requires-clause-size g c = c.requires.size

pub sum_window-a-requires-clause-reach : goal.sum_window-a-requires-clause-reach
sum_window-a-requires-clause-reach g c = omega (arith, c.requires.reach)

pub sum_window-b-requires-clause-words : goal.sum_window-b-requires-clause-words
sum_window-b-requires-clause-words g c = c.requires.words

pub sum_window-b-requires-clause-samples : goal.sum_window-b-requires-clause-samples
sum_window-b-requires-clause-samples g c = c.requires.samples

pub sum_window-b-requires-clause-size : goal.sum_window-b-requires-clause-size
sum_window-b-requires-clause-size g c = c.requires.size

pub sum_window-b-requires-clause-reach : goal.sum_window-b-requires-clause-reach
sum_window-b-requires-clause-reach g c = omega (arith, c.requires.reach)

pub sum_window-c-requires-clause-words : goal.sum_window-c-requires-clause-words
sum_window-c-requires-clause-words g c = c.requires.words

pub sum_window-c-requires-clause-samples : goal.sum_window-c-requires-clause-samples
sum_window-c-requires-clause-samples g c = c.requires.samples

pub sum_window-c-requires-clause-size : goal.sum_window-c-requires-clause-size
sum_window-c-requires-clause-size g c = c.requires.size

pub sum_window-c-requires-clause-reach : goal.sum_window-c-requires-clause-reach
sum_window-c-requires-clause-reach g c = omega (arith, c.requires.reach)

pub sum_window-d-requires-clause-words : goal.sum_window-d-requires-clause-words
sum_window-d-requires-clause-words g c = c.requires.words

pub sum_window-d-requires-clause-samples : goal.sum_window-d-requires-clause-samples
sum_window-d-requires-clause-samples g c = c.requires.samples

pub sum_window-d-requires-clause-size : goal.sum_window-d-requires-clause-size
sum_window-d-requires-clause-size g c = c.requires.size

pub sum_window-d-requires-clause-reach : goal.sum_window-d-requires-clause-reach
sum_window-d-requires-clause-reach g c = omega (arith, c.requires.reach)

pub sum_window-e-requires-clause-words : goal.sum_window-e-requires-clause-words
sum_window-e-requires-clause-words g c = c.requires.words

pub sum_window-e-requires-clause-samples : goal.sum_window-e-requires-clause-samples
sum_window-e-requires-clause-samples g c = c.requires.samples

pub sum_window-e-requires-clause-size : goal.sum_window-e-requires-clause-size
sum_window-e-requires-clause-size g c = c.requires.size

pub sum_window-e-requires-clause-reach : goal.sum_window-e-requires-clause-reach
sum_window-e-requires-clause-reach g c = omega (arith, c.requires.reach)

pub sum_window-f-requires-clause-words : goal.sum_window-f-requires-clause-words
sum_window-f-requires-clause-words g c = c.requires.words

pub sum_window-f-requires-clause-samples : goal.sum_window-f-requires-clause-samples
sum_window-f-requires-clause-samples g c = c.requires.samples

pub sum_window-f-requires-clause-size : goal.sum_window-f-requires-clause-size
sum_window-f-requires-clause-size g c = c.requires.size

pub sum_window-f-requires-clause-reach : goal.sum_window-f-requires-clause-reach
sum_window-f-requires-clause-reach g c = omega (arith, c.requires.reach)

pub sum_window-g-requires-clause-words : goal.sum_window-g-requires-clause-words
sum_window-g-requires-clause-words g c = c.requires.words

pub sum_window-g-requires-clause-samples : goal.sum_window-g-requires-clause-samples
sum_window-g-requires-clause-samples g c = c.requires.samples

pub sum_window-g-requires-clause-size : goal.sum_window-g-requires-clause-size
sum_window-g-requires-clause-size g c = c.requires.size

pub sum_window-g-requires-clause-reach : goal.sum_window-g-requires-clause-reach
sum_window-g-requires-clause-reach g c = omega (arith, c.requires.reach)

pub sum_window-h-requires-clause-words : goal.sum_window-h-requires-clause-words
sum_window-h-requires-clause-words g c = c.requires.words

pub sum_window-h-requires-clause-samples : goal.sum_window-h-requires-clause-samples
sum_window-h-requires-clause-samples g c = c.requires.samples

pub sum_window-h-requires-clause-size : goal.sum_window-h-requires-clause-size
sum_window-h-requires-clause-size g c = c.requires.size

pub sum_window-h-requires-clause-reach : goal.sum_window-h-requires-clause-reach
sum_window-h-requires-clause-reach g c = omega (arith, c.requires.reach)
