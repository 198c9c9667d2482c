-- Tables of filters that share their constants.
use Rattle.std.specs.Prelude.{ℤ, ◌≡◌, ◌≤◌, List, [], ◌∷◌, length, take, Option, IsTrue}
use Rattle.space_raw.specs.Span.{Span}
use Rattle.mem_rec.specs.declared.MemRec.{MemRec}
use Rattle.mem_rec.specs.declared.Space.TheVariants.{Daram}
use Rattle.mem_rec.specs.declared.Attr.TheVariants.{Scratch, Persist, WriteOnce}
use Rattle.mem_rec.specs.Records.{is_table}
use Rattle.ialg.specs.Records.{record_at}
use Rattle.record_loans.specs.declared.plan.SharingSizes.{SharingSizes}
use Rattle.record_loans.specs.declared.pieces.Pieces.{Pieces}
use Rattle.record_loans.specs.Pieces.{piece_words}
use Rattle.scratch_group.specs.declared.plan.TheConstants.{SHARING_RECORDS}

-- the table of a filter that shares its constants, with these sizes: behind the object one persistent record, one write-once record,
-- and one scratch record in `daram`
pub record IsOfSharingFilter (rs : List MemRec) (n : SharingSizes) : Type 0 where
  pub four : length rs ≡ SHARING_RECORDS
  pub some : 1 ≤ n.object × 1 ≤ n.kept × 1 ≤ n.constants × 1 ≤ n.running
  pub object : (record_at rs 0).size ≡ n.object
  pub persistent : (record_at rs 1).attr ≡ Persist
  pub kept : (record_at rs 1).size ≡ n.kept
  pub shared : (record_at rs 2).attr ≡ WriteOnce
  pub constants : (record_at rs 2).size ≡ n.constants
  pub scratch : (record_at rs 3).attr ≡ Scratch
  pub space : (record_at rs 3).space ≡ Daram
  pub running : (record_at rs 3).size ≡ n.running

-- the table of such a filter, whose records have these sizes
pub record IsSharingFilter (rs : List MemRec) (n : SharingSizes) : Type 0 where
  pub table : IsTrue (is_table rs)
  pub sizes : IsOfSharingFilter rs n

-- the table of no such filter
abbrev pub IsOfNoSharingFilter : List MemRec → Type 0
IsOfNoSharingFilter rs = (n : SharingSizes) → IsOfSharingFilter rs n → ⊥

-- the sizes of the first four records
abbrev pub sharing_sizes_in : List MemRec → SharingSizes
sharing_sizes_in rs = record { object = (record_at rs 0).size; kept = (record_at rs 1).size; constants = (record_at rs 2).size; running = (record_at rs 3).size }

-- the words of each record of an idle filter that shares its constants
abbrev pub idle_sharing_words : SharingSizes → Pieces → Option Span → List (List ℤ)
idle_sharing_words n own once = take n.object (piece_words own.p0) ∷ take n.kept (piece_words own.p1) ∷ take n.constants (piece_words once) ∷ [] ∷ []
