use Rattle.std.proofs.Common.{◌≡◌, ◌+◌, ◌<◌, ℕ, ℤ, List, [], length, take, pos, FitsSigned}
use Rattle.std.specs.Int.{w16}
use Rattle.ialg.specs.History.{History, word_at, samples_in_frame}
use Rattle.alg_tone.specs.Equation.{frame_length}
use Rattle.alg_tone.specs.Frames.{Gives, IsFrame, IsTuned}
use Rattle.alg_tone.proofs.kernel.run_plain.Given as goal

abbrev pub invariant-loop-x : goal.invariant-loop-x
invariant-loop-x l = record {
  count : l.count ≡ l.done + l.x-index;
  fit : (k : ℕ) → k < l.done + l.x-index → FitsSigned w16 (word_at l.input k);
  gives : (p : List ℤ) (h : History) → IsTuned p h l.tuning → IsFrame p h l.start → samples_in_frame (frame_length p) h + length l.input < frame_length p
      → Gives p h (take (l.done + l.x-index) l.input) (record { samples = pos (samples_in_frame (frame_length p) h + (l.done + l.x-index)); v1 = l.v1; v2 = l.v2 }) [];
}
