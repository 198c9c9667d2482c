-- How wide the steps are: private clauses alone need this, since an interval ends where the next one begins.
use Rattle.std.specs.Prelude.{ℕ, zero, suc, ◌+◌, ◌*◌, ◌/◌, ◌^◌}
use Rattle.alg_g711.specs.declared.TheConstants.{STEPS, FINEST_A_STEP}
use Rattle.alg_g711.specs.declared.companding.Law.{Law}
use Rattle.alg_g711.specs.declared.companding.Law.TheVariants.{A, Mu}

-- of a segment
abbrev pub step_width : Law → ℕ → ℕ
step_width A zero = FINEST_A_STEP
step_width A (suc e) = FINEST_A_STEP * 2 ^ e
step_width Mu e = 2 ^ (e + 1)

-- of an interval
abbrev pub width_of : Law → ℕ → ℕ
width_of law number = step_width law (number / STEPS)
