-- Tables of the object and at most one write-once record.
use Rattle.std.specs.Prelude.{◌≡◌, ◌≤◌, ◌<◌, List, length, IsTrue}
use Rattle.mem_rec.specs.declared.MemRec.{MemRec}
use Rattle.mem_rec.specs.declared.Attr.TheVariants.{WriteOnce}
use Rattle.mem_rec.specs.Records.{is_table}
use Rattle.ialg.specs.Records.{record_at}
use Rattle.record_loans.specs.declared.plan.ReaderSizes.{ReaderSizes}
use Rattle.scratch_group.specs.declared.plan.TheConstants.{READER_RECORDS}

-- records of a reader, with these sizes: behind the object one write-once record, or nothing
pub record IsOfReader (rs : List MemRec) (n : ReaderSizes) : Type 0 where
  pub few : length rs ≤ READER_RECORDS
  pub some : 1 ≤ n.object
  pub object : (record_at rs 0).size ≡ n.object
  pub second : 1 < length rs → (record_at rs 1).attr ≡ WriteOnce
  pub once : (record_at rs 1).size ≡ n.once

-- the table of a reader, whose records have these sizes
pub record IsReader (rs : List MemRec) (n : ReaderSizes) : Type 0 where
  pub table : IsTrue (is_table rs)
  pub sizes : IsOfReader rs n

-- the table of no reader
abbrev pub IsOfNoReader : List MemRec → Type 0
IsOfNoReader rs = (n : ReaderSizes) → IsOfReader rs n → ⊥
