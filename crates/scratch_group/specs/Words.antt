-- Where the records of an instance lie, and the words that are lent.
use Rattle.std.specs.Prelude.{ℕ, suc, ℤ, ◌+◌, ◌≡◌, Bool, List, [], ◌∷◌, length, take, drop, slice_index_or}
use Rattle.std.specs.Int.{next_multiple_of}
use Rattle.mem_rec.specs.declared.MemRec.{MemRec}
use Rattle.mem_rec.specs.declared.Space.{Space}
use Rattle.mem_rec.specs.declared.Attr.{Attr}
use Rattle.mem_rec.specs.declared.Attr.TheVariants.{Scratch, Persist, WriteOnce}
use Rattle.mem_rec.specs.Layout.{scratch_records, end_from, scratch_offsets}
use Rattle.ialg.specs.Records.{record_at, words_of, idle_size}
use Rattle.scratch_group.specs.declared.group.Group.{Group}
use Rattle.record_loans.specs.declared.pieces.Pieces.{Pieces}
use Rattle.record_loans.specs.Blocks.{block_words, block_piece}
use Rattle.scratch_group.specs.Blocks.{block_in}
use Rattle.record_loans.specs.Pieces.{piece_at, piece_words, piece_place, IsInSpace}

-- where the scratch records of a space end, of the first k records
abbrev pub scratch_end : List MemRec → ℕ → Space → ℕ
scratch_end rs k space = end_from 0 (scratch_records (take k rs) space)

-- the offset of scratch record k in its block: the least multiple of its alignment not below the end of those before it
abbrev pub scratch_offset : List MemRec → ℕ → ℕ
scratch_offset rs k = next_multiple_of (scratch_end rs k (record_at rs k).space) (record_at rs k).align

-- the words of a record: the block's from its offset on, or those of its own piece, or those of the piece that is shared
abbrev pub words_by : Attr → ℕ → List ℤ → List ℤ → List ℤ → List ℤ
words_by Scratch size own shared block = take size block
words_by Persist size own shared block = take size own
words_by WriteOnce size own shared block = take size shared

-- the words of record k of an active instance
abbrev pub record_words : List MemRec → Pieces → Pieces → Group → ℕ → List ℤ
record_words rs own shared g k = words_by (record_at rs k).attr (record_at rs k).size (piece_words (piece_at own k)) (piece_words (piece_at shared k))
    (drop (scratch_offset rs k) (block_words (block_in g (record_at rs k).space)))

-- the words of each record of an active instance
abbrev pub active_words : List MemRec → Pieces → Pieces → Group → List (List ℤ)
active_words rs own shared g = record_words rs own shared g 0 ∷ record_words rs own shared g 1 ∷ record_words rs own shared g 2 ∷ record_words rs own shared g 3 ∷ []

-- the words of a record that lasts, none of a scratch record
abbrev pub lasting_words_by : Attr → ℕ → List ℤ → List ℤ → List ℤ
lasting_words_by Scratch size own shared = []
lasting_words_by Persist size own shared = take size own
lasting_words_by WriteOnce size own shared = take size shared

-- the words of record k of an idle instance
abbrev pub idle_record_words : List MemRec → Pieces → Pieces → ℕ → List ℤ
idle_record_words rs own shared k = lasting_words_by (record_at rs k).attr (record_at rs k).size (piece_words (piece_at own k)) (piece_words (piece_at shared k))

-- the words of each record of an idle instance
abbrev pub idle_words : List MemRec → Pieces → Pieces → List (List ℤ)
idle_words rs own shared = idle_record_words rs own shared 0 ∷ idle_record_words rs own shared 1 ∷ idle_record_words rs own shared 2 ∷ idle_record_words rs own shared 3 ∷ []

-- a step did what `done` says with the records of an idle instance, which had these pieces before and these after it
abbrev pub DoneIdle : {O : Type 0} → (List MemRec → Bool → List (List ℤ) → List (List ℤ) → O → O → Type 0)
    → List MemRec → Bool → Pieces → Pieces → Pieces → Pieces → O → O → Type 0
DoneIdle done rs writable own shared own' shared' out given = done rs writable (idle_words rs own shared) (idle_words rs own' shared') out given

-- a step did what `done` says with the records of an active instance, where these are its pieces and its group before and after it
abbrev pub DoneActive : {O : Type 0} → (List MemRec → Bool → List (List ℤ) → List (List ℤ) → O → O → Type 0)
    → List MemRec → Bool → Pieces → Pieces → Group → Pieces → Pieces → Group → O → O → Type 0
DoneActive done rs writable own shared g own' shared' g' out given = done rs writable (active_words rs own shared g) (active_words rs own' shared' g') out given

-- where a record begins: in its block at the offset, or where its piece begins
abbrev pub place_by : Attr → ℕ → ℕ → ℕ → ℕ
place_by Scratch own shared block = block
place_by Persist own shared block = own
place_by WriteOnce own shared block = shared

-- where record k begins
abbrev pub record_place : List MemRec → Pieces → Pieces → Group → ℕ → ℕ
record_place rs own shared g k = place_by (record_at rs k).attr (piece_place (piece_at own k)) (piece_place (piece_at shared k))
    (piece_place (block_piece (block_in g (record_at rs k).space)) + scratch_offset rs k)

-- a table with these bases
abbrev pub with_bases : List MemRec → (ℕ → ℕ) → List MemRec
with_bases [] base = []
with_bases (r ∷ rs) base = record r { base = base 0 } ∷ with_bases rs (λ k. base (suc k))

-- the table with each record's place for its base
abbrev pub placed : List MemRec → Pieces → Pieces → Group → List MemRec
placed rs own shared g = with_bases rs (record_place rs own shared g)

-- each record has its words in these pieces and blocks
abbrev pub HasWords : List MemRec → Pieces → Pieces → Group → Type 0
HasWords rs own shared g = (k : ℕ) → length (words_of (active_words rs own shared g) k) ≡ (record_at rs k).size

-- each record that lasts has its words in these pieces
abbrev pub HasPieces : List MemRec → Pieces → Pieces → Type 0
HasPieces rs own shared = (k : ℕ) → length (words_of (idle_words rs own shared) k) ≡ idle_size (record_at rs k).attr (record_at rs k).size

-- every region is no larger than a space
pub record InSpaces (own shared : Pieces) (g : Group) : Type 0 where
  pub own_space : (k : ℕ) → IsInSpace (piece_at own k)
  pub shared_space : (k : ℕ) → IsInSpace (piece_at shared k)
  pub block_space : (space : Space) → IsInSpace (block_piece (block_in g space))

-- a scratch record stands at the layout's offset, that of the number of scratch records of its space before it
abbrev pub StandsAtLayout : List MemRec → ℕ → Type 0
StandsAtLayout rs k = (record_at rs k).attr ≡ Scratch
    → scratch_offset rs k ≡ slice_index_or (scratch_offsets rs (record_at rs k).space) (length (scratch_records (take k rs) (record_at rs k).space)) 0
