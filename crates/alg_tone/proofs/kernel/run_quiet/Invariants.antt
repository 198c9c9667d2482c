use Rattle.std.proofs.Common.{◌≡◌, ◌+◌, ◌<◌, ◌≤◌, ℕ, ℤ, List, [], length, take, pos, unsigned_abs, FitsSigned}
use Rattle.std.specs.Int.{w16}
use Rattle.ialg.specs.History.{History, word_at, samples_in_frame}
use Rattle.alg_tone.specs.Equation.{frame_length}
use Rattle.alg_tone.specs.Frames.{Gives, IsFrame, IsTuned}
use Rattle.alg_tone.proofs.kernel.run_quiet.Given as goal

abbrev pub invariant-loop-x : goal.invariant-loop-x
invariant-loop-x l = record {
  count : l.count ≡ l.x-index;
  quiet : unsigned_abs l.v1 ≤ 8191;
  word : FitsSigned w16 l.v2;
  fit : (k : ℕ) → k < l.x-index → FitsSigned w16 (word_at l.input k);
  gives : (p : List ℤ) (h : History) → IsTuned p h l.tuning → IsFrame p h l.fn.start → samples_in_frame (frame_length p) h + length l.input < frame_length p
      → Gives p h (take l.x-index l.input) (record { samples = pos (samples_in_frame (frame_length p) h + l.x-index); v1 = l.v1; v2 = l.v2 }) [];
}
