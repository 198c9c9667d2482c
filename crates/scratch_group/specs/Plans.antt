-- How the records of a table are cut. No public contract speaks of it.
use Rattle.std.specs.Prelude.{ℕ, ◌-◌, ◌≤◌, List}
use Rattle.mem_rec.specs.declared.TheConstants.{RECORD_WORDS, LEAST_ALIGNMENT, GREATEST_ALIGNMENT}
use Rattle.mem_rec.specs.declared.MemRec.{MemRec}
use Rattle.mem_rec.specs.declared.Space.{Space}
use Rattle.mem_rec.specs.declared.Space.TheVariants.{Daram, Saram, External}
use Rattle.mem_rec.specs.declared.Attr.{Attr}
use Rattle.mem_rec.specs.declared.Attr.TheVariants.{Scratch, Persist, WriteOnce}
use Rattle.ialg.specs.Records.{record_at}
use Rattle.record_loans.specs.declared.plan.Source.{Source}
use Rattle.record_loans.specs.declared.plan.Source.TheVariants.{Absent, Own, Shared, InDaram, InSaram, InExternal}
use Rattle.record_loans.specs.declared.plan.Cut.{Cut}
use Rattle.record_loans.specs.declared.plan.Plan.{Plan}
use Rattle.scratch_group.specs.Words.{scratch_end, scratch_offset}

-- a record within the limits
pub record IsWithinLimits (r : MemRec) : Type 0 where
  pub some : 1 ≤ r.size
  pub most : r.size ≤ RECORD_WORDS
  pub aligned : LEAST_ALIGNMENT ≤ r.align
  pub coarsest : r.align ≤ GREATEST_ALIGNMENT

-- the block that scratch records of a space are cut out of
abbrev pub block_source : Space → Source
block_source Daram = InDaram
block_source Saram = InSaram
block_source External = InExternal

-- how a record is cut: a scratch record at its offset, where those before it end at `end`
abbrev pub cut_by : Attr → Space → ℕ → ℕ → ℕ → Cut
cut_by Persist space size offset end = record { source = Own; gap = 0; size = size }
cut_by WriteOnce space size offset end = record { source = Shared; gap = 0; size = size }
cut_by Scratch space size offset end = record { source = block_source space; gap = offset - end; size = size }

-- how record k of an active instance is cut
abbrev pub cut_of : List MemRec → ℕ → Cut
cut_of rs k = cut_by (record_at rs k).attr (record_at rs k).space (record_at rs k).size (scratch_offset rs k) (scratch_end rs k (record_at rs k).space)

-- the plan by which an active instance is lent its records
abbrev pub active_plan_of : List MemRec → Plan
active_plan_of rs = record { object = (record_at rs 0).size; first = cut_of rs 1; second = cut_of rs 2; third = cut_of rs 3 }

-- how a record of an idle instance is cut
abbrev pub idle_cut_by : Attr → ℕ → Cut
idle_cut_by Persist size = record { source = Own; gap = 0; size = size }
idle_cut_by WriteOnce size = record { source = Shared; gap = 0; size = size }
idle_cut_by Scratch size = record { source = Absent; gap = 0; size = 0 }

abbrev pub idle_cut_of : List MemRec → ℕ → Cut
idle_cut_of rs k = idle_cut_by (record_at rs k).attr (record_at rs k).size

-- the plan by which an idle instance is lent its records
abbrev pub idle_plan_of : List MemRec → Plan
idle_plan_of rs = record { object = (record_at rs 0).size; first = idle_cut_of rs 1; second = idle_cut_of rs 2; third = idle_cut_of rs 3 }
