-- What a filter asks for, and what its words keep after a control or a block.
use Rattle.std.proofs.Common.{◌≡◌, ℕ, ℤ, ◌+◌, ◌-◌, ◌*◌, ◌≤◌, ◌&&◌, ◌==◌, nat_le, true, IsTrue, List, ◌∷◌, length, take, Some, FitsSigned, sym, ◌∙◌, arith}
use Rattle.std.proofs.lemmas.Bool.Decides.{nat_tests}
use Rattle.std.specs.List.{All}
use Rattle.std.specs.Int.{w16}
use Rattle.ialg.specs.declared.filter.FilterMemory.{FilterMemory}
use Rattle.ialg.specs.declared.TheConstants.{BLOCK_SAMPLES}
use Rattle.ialg.specs.History.{History, Control, Set, with_samples}
use Rattle.ialg.proofs.Tables.{chosen}
use Rattle.ialg.proofs.Histories.{IsWordHistory-with_samples}
use Rattle.fir_kernel.specs.declared.TheConstants.{MOST_COEFFICIENTS}
use Rattle.alg_fir.specs.declared.TheConstants.{LINE_ALIGNMENT}
use Rattle.alg_fir.specs.Keeps.{Ran, Runs}
use Rattle.alg_fir.specs.Meaning.{fir_memory}

-- which parameters are taken, and what is asked for then
pub record IsAsked (n : ℕ) (m : FilterMemory) : Type 0 where
  pub some : 1 ≤ n
  pub few : n ≤ MOST_COEFFICIENTS
  pub memory : m ≡ record { kept = 2 * n - 1; running = n - 1 + BLOCK_SAMPLES; align = LINE_ALIGNMENT }

within : (n : ℕ) → (nat_le 1 n && nat_le n MOST_COEFFICIENTS) ≡ true → (1 ≤ n) × (n ≤ MOST_COEFFICIENTS)
within n e = grind (arith, nat_tests)

pub memory_some : (p : List ℤ) (m : FilterMemory) → fir_memory p ≡ Some m → IsAsked (length p) m
memory_some p m e =
    let n = length p in
    let c = chosen (nat_le 1 n && nat_le n MOST_COEFFICIENTS) (record { kept = 2 * n - 1; running = n - 1 + BLOCK_SAMPLES; align = LINE_ALIGNMENT }) m e in
    let b = within n c.0 in
    record { some = b.0; few = b.1; memory = c.1 }

-- these coefficients were put in place of those before
pub was_set : (p : List ℤ) (h : History) (cs old new running : List ℤ) → Runs p h old running → IsTrue (length cs == length p)
    → length new ≡ length old → (length cs ≤ length old → take (length cs) new ≡ cs) → (length cs ≤ length old → All (FitsSigned w16) cs)
    → Runs p (Control (Set cs) ∷ h) new running
was_set p h cs old new running runs accepted long written fit =
    let many : length cs ≡ length p = grind (arith, nat_tests, accepted) in
    let some = runs.coefficients.some in
    let size = runs.coefficients.size in
    let room : length cs ≤ length old = omega arith in
    record {
      history = (fit room, runs.history);
      coefficients = record { some = some; few = runs.coefficients.few; size = long ∙ size; coefficients = rw (← many) (written room) };
      ring =
          let ring = runs.ring in
          record { size = ring.size; place = ring.place; last = ring.last; ring = record { within = ring.ring.within; samples = ring.ring.samples } };
    }

-- a block was run
pub was_run : (p : List ℤ) (h : History) (xs kept running new : List ℤ) → Runs p h kept running → Ran p h xs new
    → Runs p (with_samples h xs) kept new
was_run p h xs kept running new runs ran = record {
  history = IsWordHistory-with_samples h xs runs.history ran.samples;
  coefficients = record {
    some = runs.coefficients.some;
    few = runs.coefficients.few;
    size = runs.coefficients.size;
    coefficients = runs.coefficients.coefficients ∙ sym ran.coefficients;
  };
  ring = ran.ring;
}
