-- What stands in the words after past samples or coefficients were copied.
use Rattle.std.proofs.Common.{◌≡◌, ℕ, ℤ, ◌<◌, ◌≤◌, List, length, ◌∙◌, arith}
use Rattle.ialg.specs.History.{History, word_at}
use Rattle.ialg.proofs.Histories.{take_same}
use Rattle.alg_fir.specs.Keeps.{KeepsCoefficients}

-- the coefficients stay where no word of theirs is written
pub coefficients_stay : (p : List ℤ) (h : History) (kept new : List ℤ) (at : ℕ) → length p ≤ at → length new ≡ length kept
    → ((k : ℕ) → k < at → word_at new k ≡ word_at kept k) → KeepsCoefficients p h kept → KeepsCoefficients p h new
coefficients_stay p h kept new at b l same coefficients =
    let some = coefficients.some in
    let size = coefficients.size in
    record {
      some = some;
      few = coefficients.few;
      size = l ∙ size;
      coefficients = take_same (length p) new kept (omega arith) (omega arith) (λ k s. same k (omega arith)) ∙ coefficients.coefficients;
    }
