-- Tables of filters.
use Rattle.std.specs.Prelude.{ℤ, ◌≡◌, ◌≤◌, List, [], ◌∷◌, length, take, IsTrue}
use Rattle.mem_rec.specs.declared.MemRec.{MemRec}
use Rattle.mem_rec.specs.declared.Space.TheVariants.{Daram}
use Rattle.mem_rec.specs.declared.Attr.TheVariants.{Scratch, Persist}
use Rattle.mem_rec.specs.Records.{is_table}
use Rattle.ialg.specs.declared.TheConstants.{FILTER_RECORDS}
use Rattle.ialg.specs.Records.{record_at}
use Rattle.record_loans.specs.declared.plan.FilterSizes.{FilterSizes}
use Rattle.record_loans.specs.declared.pieces.Pieces.{Pieces}
use Rattle.record_loans.specs.Pieces.{piece_words}

-- records of a filter, with these sizes: behind the object one persistent record, and one scratch record in `daram`
pub record IsOfFilter (rs : List MemRec) (n : FilterSizes) : Type 0 where
  pub three : length rs ≡ FILTER_RECORDS
  pub some : 1 ≤ n.object × 1 ≤ n.kept × 1 ≤ n.running
  pub object : (record_at rs 0).size ≡ n.object
  pub persistent : (record_at rs 1).attr ≡ Persist
  pub kept : (record_at rs 1).size ≡ n.kept
  pub scratch : (record_at rs 2).attr ≡ Scratch
  pub space : (record_at rs 2).space ≡ Daram
  pub running : (record_at rs 2).size ≡ n.running

-- the table of a filter, whose records have these sizes
pub record IsFilter (rs : List MemRec) (n : FilterSizes) : Type 0 where
  pub table : IsTrue (is_table rs)
  pub sizes : IsOfFilter rs n

-- the table of no filter
abbrev pub IsOfNoFilter : List MemRec → Type 0
IsOfNoFilter rs = (n : FilterSizes) → IsOfFilter rs n → ⊥

-- the sizes of the first three records
abbrev pub filter_sizes_in : List MemRec → FilterSizes
filter_sizes_in rs = record { object = (record_at rs 0).size; kept = (record_at rs 1).size; running = (record_at rs 2).size }

-- the words of each record of an idle filter
abbrev pub idle_filter_words : FilterSizes → Pieces → List (List ℤ)
idle_filter_words n own = take n.object (piece_words own.p0) ∷ take n.kept (piece_words own.p1) ∷ [] ∷ [] ∷ []
