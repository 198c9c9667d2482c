-- Halves of sums with one or two more products.
use Rattle.std.proofs.Common.{◌≡◌, ℕ, suc, ◌+◌, ◌-◌, ◌<◌, ℤ, List, take, drop, ap, ◌∙◌}
use Rattle.basic_op.specs.Halves.{half_of}
use Rattle.basic_op.specs.Operators.{l_mac_of}
use Rattle.ialg.specs.History.{word_at}
use Rattle.fir_kernel.specs.Sums.{l_mac_sum}
use Rattle.fir_kernel.proofs.Parts.{part_at}

-- the sample of tap k in a part of the line that begins at word m
pub tap_at : (line : List ℤ) (m e i n : ℕ) → m + i < e → m + i ≡ n → word_at (take (e - m) (drop m line)) i ≡ word_at line n
tap_at line m e i n b same = part_at line m e i b ∙ ap (word_at line) same

module _ (c x : ℕ → ℤ) where
  pub one_more : (n m : ℕ) (a : ℤ) → suc n ≡ m → a ≡ x n → half_of (l_mac_of (l_mac_sum c x n) (c n) a) ≡ half_of (l_mac_sum c x m)
  one_more n m a more e = ap (λ z. half_of (l_mac_of (l_mac_sum c x n) (c n) z)) e ∙ ap (λ k. half_of (l_mac_sum c x k)) more

  pub two_more : (n m : ℕ) (a b : ℤ) → suc (suc n) ≡ m → a ≡ x n → b ≡ x (suc n)
      → half_of (l_mac_of (l_mac_of (l_mac_sum c x n) (c n) a) (c (suc n)) b) ≡ half_of (l_mac_sum c x m)
  two_more n m a b more e f =
      ap (λ z. half_of (l_mac_of (l_mac_of (l_mac_sum c x n) (c n) z) (c (suc n)) b)) e
      ∙ ap (λ z. half_of (l_mac_of (l_mac_sum c x (suc n)) (c (suc n)) z)) f
      ∙ ap (λ k. half_of (l_mac_sum c x k)) more
