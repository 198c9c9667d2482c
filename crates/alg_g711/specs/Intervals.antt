-- Laws of companding.
use Rattle.std.specs.Prelude.{◌≡◌, ◌≢◌, ℕ, ◌+◌, ◌<◌, IsTrue, ℤ, ◌<ℤ◌, pos}
use Rattle.alg_g711.specs.declared.TheConstants.{INTERVALS, CODES, SIGN_BIT}
use Rattle.alg_g711.specs.declared.companding.Law.{Law}
use Rattle.alg_g711.specs.declared.companding.Law.TheVariants.{A, Mu}
use Rattle.alg_g711.specs.Companding.{holds, interval_of, magnitude_of, turned, encoded, decoded}

-- exactly one interval holds the sample's magnitude
pub record LiesInOne (law : Law) (x : ℤ) : Type 0 where
  pub some : interval_of law (magnitude_of law x) < INTERVALS
  pub inside : IsTrue (holds law (magnitude_of law x) (interval_of law (magnitude_of law x)))
  pub only : (number : ℕ) → number < INTERVALS → IsTrue (holds law (magnitude_of law x) number)
      → number ≡ interval_of law (magnitude_of law x)

-- the sample of a higher interval is greater, or less where the samples are negative
pub record IsMonotone (law : Law) (low high : ℕ) : Type 0 where
  pub positive : decoded law (SIGN_BIT + turned law low) <ℤ decoded law (SIGN_BIT + turned law high)
  pub negative : decoded law (turned law high) <ℤ decoded law (turned law low)

-- each code comes back from its sample, but mu-law's code of the negative zero, whose sample is that of the positive zero
pub record CodesComeBack : Type 0 where
  pub a : (code : ℕ) → code < CODES → encoded A (decoded A code) ≡ code
  pub mu : (code : ℕ) → code < CODES → code ≢ 127 → encoded Mu (decoded Mu code) ≡ code
  pub negative_zero : decoded Mu 127 ≡ pos 0
  pub zero : encoded Mu (pos 0) ≡ 255
