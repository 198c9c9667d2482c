use Rattle.std.proofs.Common.{◌≡◌, ◌<◌, ◌≤◌, ℕ, length, take, FitsSigned}
use Rattle.std.specs.Int.{w16}
use Rattle.ialg.specs.History.{History, samples_since_reset, word_at}
use Rattle.kind_steps.specs.Steppings.{IsHeld}
use Rattle.kind_steps.proofs.Steppings.{Gives}
use Rattle.kind_steps.proofs.stepping.run_block.Given as goal

abbrev pub invariant-loop-x : goal.invariant-loop-x
invariant-loop-x g l = record {
  count : length l.out.items ≤ l.x-index;
  few : l.now < g.K.Stepping.frame l.p;
  frame : length l.held ≡ g.K.Stepping.frame l.p;
  size : length l.state ≡ g.K.Stepping.words l.p;
  fit : (k : ℕ) → k < l.x-index → FitsSigned w16 (word_at l.input k);
  gives : (h : History) → IsHeld (g.K.Stepping.frame l.p) (g.K.Stepping.state_of l.p) (samples_since_reset h) l.waiting l.fn.held l.fn.state
      → Gives g.K.Stepping.frame g.K.Stepping.state_of g.K.Stepping.told l.p h (take l.x-index l.input) (l.now, l.held, l.state) l.out.items;
}
