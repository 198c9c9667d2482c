use Rattle.std.proofs.Common.{◌≡◌, ◌<◌, ℕ, length, take, FitsSigned}
use Rattle.std.specs.Int.{w16}
use Rattle.ialg.specs.History.{History, word_at}
use Rattle.kind_steps.specs.Recursions.{state_after}
use Rattle.kind_steps.proofs.Recursions.{Gives}
use Rattle.kind_steps.proofs.recursion.run.Given as goal

abbrev pub invariant-loop-x : goal.invariant-loop-x
invariant-loop-x g l =
    let R = g.K.Recursion in
    record {
      count : length l.out.items ≡ l.x-index;
      fit : (k : ℕ) → k < l.x-index → FitsSigned w16 (word_at l.input k);
      gives : (h : History) → l.fn.words ≡ R.words_of (state_after R.first R.taken l.tuning h) → Gives R.first R.taken l.tuning h (take l.x-index l.input) l.state l.out.items;
    }
