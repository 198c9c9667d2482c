-- The first state of pairs.
use Rattle.std.proofs.Common.{◌≡◌, ℕ, ℤ, pos, List, length, replicate, sym, ◌∙◌}
use Rattle.ialg.specs.History.{word_at}
use Rattle.ialg.proofs.Histories.{all_zero}

-- words of 0 are the first state
pub zero_state : (n : ℕ) (first ws : List ℤ) → first ≡ replicate n (pos 0) → length ws ≡ n → ((k : ℕ) → word_at ws k ≡ pos 0) → ws ≡ first
zero_state n first ws begins size zeros = all_zero n ws size zeros ∙ sym begins
