use Rattle.std.proofs.Common.{◌≡◌, ◌<◌, ℕ, ℤ, List, length, take, FitsSigned}
use Rattle.std.specs.Int.{w16}
use Rattle.ialg.specs.History.{History, word_at, words_in_force}
use Rattle.alg_biquad.specs.Keeps.{Gives, IsNewest}
use Rattle.alg_biquad.proofs.kernel.run_plain.Given as goal

abbrev pub invariant-loop-x : goal.invariant-loop-x
invariant-loop-x l = record {
  count : length l.out.items ≡ l.x-index;
  fit : (k : ℕ) → k < l.x-index → FitsSigned w16 (word_at l.input k);
  ran : (p : List ℤ) (h : History) → l.coefficients ≡ words_in_force p h → IsNewest p h l.fn.state
      → Gives p h (take l.x-index l.input) l.newest l.out.items;
}
