-- No factor is -32768.
use Rattle.std.proofs.Common.{◌^◌, ◌≤◌, ℤ, pos, negsuc, unsigned_abs, arith}
use native.Mathlib.Nat.{div-le_self}
use Rattle.alg_dtmf.specs.Equation.{gain_of, low_factors, high_factors}
use Rattle.alg_dtmf.specs.Keeps.{AreAboveLeast}

pub gain_small : (s : ℤ) → unsigned_abs (gain_of s) ≤ 32767
gain_small (pos n) = let h = div-le_self 16384 (2 ^ n) in omega arith
gain_small (negsuc n) = grind arith

pub low_above_least : AreAboveLeast low_factors
low_above_least = record { a = omega arith; b = omega arith; c = omega arith; d = omega arith }

pub high_above_least : AreAboveLeast high_factors
high_above_least = record { a = omega arith; b = omega arith; c = omega arith; d = omega arith }
