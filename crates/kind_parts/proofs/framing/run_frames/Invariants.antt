use Rattle.std.proofs.Common.{◌≡◌, ◌<◌, ◌≤◌, ◌+◌, ℕ, length, take, FitsSigned}
use Rattle.std.specs.Int.{w16}
use Rattle.ialg.specs.History.{History, word_at}
use Rattle.kind_parts.specs.declared.framing.TheConstants.{COUNT}
use Rattle.kind_parts.specs.Framings.{state_after}
use Rattle.kind_parts.proofs.Framings.{Gives}
use Rattle.kind_parts.proofs.framing.run_frames.Given as goal

abbrev pub invariant-loop-x : goal.invariant-loop-x
invariant-loop-x g l = record {
  count : length l.out.items ≤ l.x-index;
  size : length l.words ≡ COUNT + g.K.Framing.STATE_WORDS;
  fit : (k : ℕ) → k < l.x-index → FitsSigned w16 (word_at l.input k);
  gives : (h : History) → l.fn.words ≡ state_after g.K.Framing.state_of l.p h
      → Gives g.K.Framing.state_of g.K.Framing.told l.p h (take l.x-index l.input) l.words l.out.items;
}
