-- Worked rows: how the records of tables are lent.
use Rattle.std.specs.Prelude.{ℕ, [], ◌∷◌}
use Rattle.mem_rec.specs.declared.MemRec.{MemRec}
use Rattle.mem_rec.specs.declared.Space.{Space}
use Rattle.mem_rec.specs.declared.Space.TheVariants.{Daram, Saram, External}
use Rattle.mem_rec.specs.declared.Attr.{Attr}
use Rattle.mem_rec.specs.declared.Attr.TheVariants.{Scratch, Persist, WriteOnce}
use Rattle.record_loans.specs.declared.plan.FilterSizes.{FilterSizes}
use Rattle.record_loans.specs.declared.plan.ReaderSizes.{ReaderSizes}
use Rattle.scratch_group.specs.declared.plan.Loan.TheVariants.{Filter, Planned, Reader, Sharing}
use Rattle.scratch_group.specs.Loans.{IsLoan}

abbrev pub words : ℕ → Space → Attr → MemRec
words n space attr = record { size = n; align = 4; space = space; attr = attr; base = 0 }

abbrev pub object : MemRec
object = words 4 External Persist

abbrev pub kept : MemRec
kept = words 6 Saram Persist

abbrev pub running : Space → MemRec
running space = words 3 space Scratch

pub record LoanRows : Type 0 where
  -- a detector's: its object, six words that are kept, and three scratch words in `daram`
  pub filter : IsLoan (object ∷ kept ∷ running Daram ∷ []) (Filter (record { object = 4; kept = 6; running = 3 }))
  -- a decoder's: its object and the table of its samples
  pub reader : IsLoan (object ∷ words 256 External WriteOnce ∷ []) (Reader (record { object = 4; once = 256 }))
  -- an encoder's: its object alone
  pub object_alone : IsLoan (object ∷ []) (Reader (record { object = 4; once = 0 }))
  -- a biquad's: constants between the kept words and the running ones
  pub sharing : IsLoan (object ∷ kept ∷ words 4 External WriteOnce ∷ running Daram ∷ []) (Sharing (record { object = 4; kept = 6; constants = 4; running = 3 }))
  pub of_any_table : IsLoan (object ∷ kept ∷ []) Planned
  pub of_other_sizes : IsLoan (object ∷ kept ∷ running Daram ∷ []) (Filter (record { object = 4; kept = 6; running = 4 })) → ⊥
  pub in_another_space : (n : FilterSizes) → IsLoan (object ∷ kept ∷ running Saram ∷ []) (Filter n) → ⊥
  pub of_four_records : (n : FilterSizes) → IsLoan (object ∷ kept ∷ words 4 External WriteOnce ∷ running Daram ∷ []) (Filter n) → ⊥
  pub kept_behind_the_object : (n : ReaderSizes) → IsLoan (object ∷ kept ∷ []) (Reader n) → ⊥
