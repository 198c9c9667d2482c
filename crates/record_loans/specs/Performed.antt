-- What a step did to the records that were lent for it.
use Rattle.std.specs.Prelude.{ℤ, Bool, List}
use Rattle.mem_rec.specs.declared.MemRec.{MemRec}
use Rattle.ialg.specs.declared.lending.Lending.{Lending}
use Rattle.record_loans.specs.declared.loans.PlannedLoan.{PlannedLoan}
use Rattle.record_loans.specs.declared.plan.Plan.{Plan}

-- the step of a loan did what `done` says, where the records had these words before and after, and `out` was this and that
abbrev pub Performed : {S O : Type 0} → (S → List MemRec → Bool → List (List ℤ) → List (List ℤ) → O → O → Type 0)
    → Lending S → List (List ℤ) → List (List ℤ) → O → O → Type 0
Performed done loan old new out given = done loan.step.now loan.table.now loan.writable old new out given

-- it did so with the records that the plan of the loan cuts
abbrev pub PerformedBy : {S O : Type 0} → (S → List MemRec → Bool → List (List ℤ) → List (List ℤ) → O → O → Type 0)
    → PlannedLoan S → (Plan → List (List ℤ)) → (Plan → List (List ℤ)) → O → O → Type 0
PerformedBy done loan old new out given = Performed done loan.lending.now (old loan.plan.now) (new loan.plan.now) out given
