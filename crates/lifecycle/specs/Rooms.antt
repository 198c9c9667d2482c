-- When pieces and blocks have room for the records of a table.
use Rattle.std.specs.Prelude.{ℕ, ◌<◌, ◌≡◌, List, length, Option, None, MatchOption}
use Rattle.space_raw.specs.Span.{Span, Apart}
use Rattle.mem_rec.specs.declared.MemRec.{MemRec}
use Rattle.mem_rec.specs.declared.Space.{Space}
use Rattle.mem_rec.specs.declared.Attr.{Attr}
use Rattle.mem_rec.specs.declared.Attr.TheVariants.{Scratch, Persist, WriteOnce}
use Rattle.mem_rec.specs.Layout.{scratch_need, scratch_align}
use Rattle.ialg.specs.Records.{record_at}
use Rattle.scratch_group.specs.declared.group.Group.{Group}
use Rattle.record_loans.specs.declared.pieces.Pieces.{Pieces}
use Rattle.record_loans.specs.Blocks.{block_piece}
use Rattle.scratch_group.specs.Blocks.{block_in, block_needed}
use Rattle.record_loans.specs.Pieces.{piece_at}

-- no block must be placed for the table
abbrev pub NoNeed : List MemRec → Group → Type 0
NoNeed rs g = (space : Space) → block_needed (block_in g space) (scratch_need rs space) (scratch_align rs space) ≡ None

-- the piece of a record that lasts
abbrev pub lasting_piece : Attr → Option Span → Option Span → Option Span
lasting_piece Scratch own shared = None
lasting_piece Persist own shared = own
lasting_piece WriteOnce own shared = shared

abbrev pub piece_of_record : List MemRec → Pieces → Pieces → ℕ → Option Span
piece_of_record rs own shared k = lasting_piece (record_at rs k).attr (piece_at own k) (piece_at shared k)

-- two pieces have no word in common
abbrev pub AreSeparate : Option Span → Option Span → Type 0
AreSeparate p q = MatchOption p (Unit {0}) (λ s. MatchOption q (Unit {0}) (λ t. Apart s t))

-- no piece has a word in common with another piece of its space, or with the group's block there
pub record Separate (rs : List MemRec) (own shared : Pieces) (g : Group) : Type 0 where
  pub pieces : (j k : ℕ) → j < k → k < length rs → (record_at rs j).space ≡ (record_at rs k).space
      → AreSeparate (piece_of_record rs own shared j) (piece_of_record rs own shared k)
  pub block : (k : ℕ) → k < length rs → AreSeparate (piece_of_record rs own shared k) (block_piece (block_in g (record_at rs k).space))
