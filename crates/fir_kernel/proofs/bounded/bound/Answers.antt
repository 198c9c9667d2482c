use Rattle.std.proofs.Common.{◌≡◌, ◌↔◌, ◌<◌, ◌≤◌, ◌*◌, ℕ, ℤ, List, length, IsTrue, nat_lt, refl, ◌∙◌, arith}
use Rattle.std.proofs.lemmas.Bool.Decides.{nat_tests}
use Rattle.std.proofs.lemmas.Nat.{mul-le}
use Rattle.ialg.specs.History.{word_at}
use Rattle.fir_kernel.specs.declared.TheConstants.{GREATEST_MAGNITUDE, LEAST_UNBOUNDED_SUM}
use Rattle.fir_kernel.specs.Bounded.{magnitude_sum, NoneLouder, IsBounded}
use Rattle.fir_kernel.proofs.bounded.bound.Goals as goal

-- the least bound of the samples tells
decided_by : (cs samples : List ℤ) (m l : ℕ) → m ≡ magnitude_sum (word_at cs) (length cs) → NoneLouder samples l
    → ((bound : ℕ) → NoneLouder samples bound → l ≤ bound) → IsTrue (nat_lt (m * l) LEAST_UNBOUNDED_SUM) ↔ IsBounded cs samples
decided_by cs samples m l e quiet least = (
  λ t. let within : magnitude_sum (word_at cs) (length cs) * l < LEAST_UNBOUNDED_SUM = rw (← e) (grind (arith, nat_tests, t)) in (l, quiet, within),
  λ b.
      let less : m * l ≤ m * b.0 = mul-le m l m b.0 (omega arith) (least b.0 b.1) in
      let bound : m * b.0 < LEAST_UNBOUNDED_SUM = rw e b.2 in
      let within : m * l < LEAST_UNBOUNDED_SUM = omega arith in
      grind (arith, nat_tests, within),
)

pub returns-then-magnitude-lt-LEAST_UNBOUNDED_SUM-clause-bounded : goal.returns-then-magnitude-lt-LEAST_UNBOUNDED_SUM-clause-bounded
returns-then-magnitude-lt-LEAST_UNBOUNDED_SUM-clause-bounded c =
    let e : c.from-magnitude.result ≡ magnitude_sum (word_at c.args.coefficients.now) (length c.args.coefficients.now) = c.from-magnitude.ensures ∙ c.magnitude.ensures in
    let few : magnitude_sum (word_at c.args.coefficients.now) (length c.args.coefficients.now) * GREATEST_MAGNITUDE < LEAST_UNBOUNDED_SUM =
    rw (← e) c.if-magnitude-lt-LEAST_UNBOUNDED_SUM.true in
    (λ t. (GREATEST_MAGNITUDE, c.read.ensures, few), λ b. refl)

pub returns-clause-bounded : goal.returns-clause-bounded
returns-clause-bounded c =
    rw c.from.ensures
    (decided_by c.args.coefficients.now c.args.samples.now c.from-magnitude.result c.loudest-loudest.result (c.from-magnitude.ensures ∙ c.magnitude.ensures)
    c.loudest-loudest.ensures.bound c.loudest-loudest.ensures.least)
