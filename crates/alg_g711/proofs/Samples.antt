-- The magnitude of a sample lies within its law's intervals.
use Rattle.std.proofs.Common.{◌≡◌, ℕ, ◌<◌, ◌≤◌, ℤ, pos, negsuc, FitsSigned, IsTrue, Bool, true, rules, sym, arith}
use Rattle.std.specs.Int.{w16}
use Rattle.std.specs.Int.Signed.{mag}
use Rattle.alg_g711.specs.declared.TheConstants.{INTERVALS}
use Rattle.alg_g711.specs.declared.companding.Law.{Law}
use Rattle.alg_g711.specs.declared.companding.Law.TheVariants.{A, Mu}
use Rattle.alg_g711.specs.Companding.{lower_end, magnitude_of}
use Rattle.alg_g711.specs.Intervals.{LiesInOne}
use Rattle.alg_g711.proofs.Dividing.{held_below, interval_is}

passes : {b : Bool} → b ≡ true → IsTrue b
passes e = search rules

passed : {b : Bool} → IsTrue b → b ≡ true
passed t = search rules

-- within all intervals
pub record IsCovered (law : Law) (magnitude : ℕ) : Type 0 where
  pub above : lower_end law 0 ≤ magnitude
  pub below : magnitude < lower_end law INTERVALS

mag_small : (x : ℤ) → FitsSigned w16 x → mag x < 32768
mag_small (pos n) fits = omega (arith, fits)
mag_small (negsuc n) fits = omega (arith, fits)

pub covered : (law : Law) (x : ℤ) → FitsSigned w16 x → IsCovered law (magnitude_of law x)
covered A x fits = let small = mag_small x fits in record { above = omega arith; below = omega arith }
covered Mu x fits = let small = mag_small x fits in record { above = omega arith; below = omega arith }

pub lies_in_one : (law : Law) (x : ℤ) → FitsSigned w16 x → LiesInOne law x
lies_in_one law x fits =
    let y = magnitude_of law x in
    let whole = covered law x fits in
    let held = held_below law y INTERVALS (omega arith) whole.above whole.below in
    let e = interval_is law y held.number held.within held.here in
    record {
      some = rw e held.within;
      inside = rw e (passes held.here);
      only = λ number b here. sym (interval_is law y number b (passed here));
    }
