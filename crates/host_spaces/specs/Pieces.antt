-- The pieces of an instance's records and of a group's blocks, and the blocks that they are.
use Rattle.std.specs.Prelude.{◌≡◌, ℕ, ℤ, Bool, true, false, List, [], ◌∷◌, length, Option, Some, None, if◌then◌else◌}
use Rattle.mem_rec.specs.declared.MemRec.{MemRec}
use Rattle.mem_rec.specs.declared.Space.{Space}
use Rattle.mem_rec.specs.declared.Space.TheVariants.{Daram, Saram, External}
use Rattle.mem_rec.specs.declared.Attr.{Attr}
use Rattle.mem_rec.specs.declared.Attr.TheVariants.{Persist, WriteOnce, Scratch as ScratchRecord}
use Rattle.mem_rec.specs.Records.{is_persistent, same_space}
use Rattle.space_raw.specs.Span.{Extent, Span}
use Rattle.relocate.specs.Places.{placed_size}
use Rattle.ialg.specs.Records.{ArePoison, record_at}
use Rattle.record_loans.specs.declared.pieces.Pieces.{Pieces}
use Rattle.record_loans.specs.declared.block.ScratchBlock.{ScratchBlock}
use Rattle.record_loans.specs.Pieces.{piece_at, piece_words}
use Rattle.record_loans.specs.Blocks.{block_align, block_piece, block_words}
use Rattle.scratch_group.specs.declared.group.Group.{Group}
use Rattle.scratch_group.specs.Blocks.{block_in}
use Rattle.lifecycle.specs.Rooms.{piece_of_record}
use Rattle.host_map.specs.declared.placed.Owner.TheVariants.{Record, Scratch}
use Rattle.host_map.specs.declared.placed.Placed.{Placed}
use Rattle.host_spaces.specs.Blocks.{block_of, block_of_piece, without_piece}
use Rattle.host_map.specs.Blocks.{owned, with_block}
use Rattle.scratch_group.specs.declared.group.Need.{Need}
use Rattle.host_spaces.specs.declared.granted.Granted.{Granted}
use Rattle.host_map.specs.declared.parts.Wanted.{Wanted}
use Rattle.host_spaces.specs.declared.pieces.NewBlocks.{NewBlocks}
use Rattle.host_spaces.specs.declared.pieces.Placement.{Placement}
use Rattle.host_spaces.specs.declared.pieces.OldBlocks.{OldBlocks}
use Rattle.host_spaces.specs.declared.spaces.Spaces.{Spaces}
use Rattle.host_map.specs.MemoryMap.{MemoryMap, blocks_in, each_space}
use Rattle.host_spaces.specs.MemoryMap.{map_of, space_in}
use Rattle.host_spaces.specs.Wants.{want_at}

-- the block of record k of instance i in the space, none if it is in another
abbrev pub record_block : ℕ → ℕ → MemRec → Space → Option Span → List Placed
record_block i k r space p = if same_space r.space space then block_of_piece (Record i k) r.align p else []

-- the blocks of instance i in the memory map are the pieces of its records
abbrev pub HasRecords : MemoryMap → ℕ → List MemRec → Pieces → Pieces → Type 0
HasRecords map i table own shared = (k : ℕ) (space : Space) →
    owned (Record i k) (blocks_in map space) ≡ record_block i k (record_at table k) space (piece_of_record table own shared k)

-- those of group g are its blocks
abbrev pub HasBlocks : MemoryMap → ℕ → Group → Type 0
HasBlocks map g group = (space : Space) →
    owned (Scratch g) (blocks_in map space) ≡ block_of_piece (Scratch g) (block_align (block_in group space)) (block_piece (block_in group space))

abbrev pub is_write_once : Attr → Bool
is_write_once ScratchRecord = false
is_write_once Persist = false
is_write_once WriteOnce = true

-- where a piece is wanted there is one, of the space's words and of so many of them
abbrev pub IsPieceOf : Extent → ℕ → Bool → Option Span → Type 0
IsPieceOf owner size wanted None = wanted ≡ false
IsPieceOf owner size wanted (Some p) = (wanted ≡ true) × (p.region ≡ owner) × (length p.words ≡ size)

-- each record that lasts has a piece of its placed size in its space: a persistent one its own, a write-once one among those that are lent
pub record ArePiecesOf (spaces : Spaces) (table : List MemRec) (own shared : Pieces) : Type 0 where
  pub persistent : (k : ℕ) → IsPieceOf (space_in spaces (record_at table k).space).region (placed_size (record_at table k).size)
      (is_persistent (record_at table k).attr) (piece_at own k)
  pub write_once : (k : ℕ) → IsPieceOf (space_in spaces (record_at table k).space).region (placed_size (record_at table k).size)
      (is_write_once (record_at table k).attr) (piece_at shared k)

-- whether a write-once record gets a piece: where no other instance shares it, its sharer
abbrev pub is_placed_once : Option ℕ → Attr → Bool
is_placed_once None a = is_write_once a
is_placed_once (Some sharer) a = false

-- the same without the pieces of the records that another instance shares
pub record ArePlacedPieces (spaces : Spaces) (table : List MemRec) (sharers : ℕ → Option ℕ) (own shared : Pieces) : Type 0 where
  pub persistent : (k : ℕ) → IsPieceOf (space_in spaces (record_at table k).space).region (placed_size (record_at table k).size)
      (is_persistent (record_at table k).attr) (piece_at own k)
  pub write_once : (k : ℕ) → IsPieceOf (space_in spaces (record_at table k).space).region (placed_size (record_at table k).size)
      (is_placed_once (sharers k) (record_at table k).attr) (piece_at shared k)

-- the spaces of a table's records
abbrev pub spaces_of : List MemRec → List Space
spaces_of table = (record_at table 0).space ∷ (record_at table 1).space ∷ (record_at table 2).space ∷ (record_at table 3).space ∷ []

-- all pieces of instance i in the memory map, whose records lie in these spaces: those that no other instance shares
pub record AreRecordsOf (spaces : Spaces) (i : ℕ) (places : List Space) (own shared : Pieces) : Type 0 where
  pub table : List MemRec
  pub there : places ≡ spaces_of table
  pub pieces : (sharers : ℕ → Option ℕ) × ArePlacedPieces spaces table sharers own shared
  pub records : HasRecords (map_of spaces) i table own shared

-- write-once records alone have sharers
abbrev pub AreSharable : List MemRec → (ℕ → Option ℕ) → Type 0
AreSharable table sharers = (k j : ℕ) → sharers k ≡ Some j → is_write_once (record_at table k).attr ≡ true

abbrev pub new_block : NewBlocks → Space → Option ScratchBlock
new_block blocks Daram = blocks.daram
new_block blocks Saram = blocks.saram
new_block blocks External = blocks.external

abbrev pub old_piece : OldBlocks → Space → Option Span
old_piece pieces Daram = pieces.daram
old_piece pieces Saram = pieces.saram
old_piece pieces External = pieces.external

-- a piece as one of the instance's own, and as one that is lent to it
abbrev pub kept_piece : Bool → Option Span → Option Span
kept_piece once p = if once then None else p

abbrev pub lent_piece : Bool → Option Span → Option Span
lent_piece once p = if once then p else None

abbrev pub as_block : Option Wanted → Option Span → Option ScratchBlock
as_block want None = None
as_block None (Some p) = None
as_block (Some w) (Some p) = Some (record { piece = p; align = w.align })

-- what was granted, as an instance and its group take it
abbrev pub placement_of : List MemRec → List (Option Wanted) → Granted → Placement
placement_of table wants made =
    let once : ℕ → Bool = λ k. is_write_once (record_at table k).attr in
    record {
      own = record { p0 = kept_piece (once 0) made.p0; p1 = kept_piece (once 1) made.p1; p2 = kept_piece (once 2) made.p2; p3 = kept_piece (once 3) made.p3 };
      shared = record { p0 = lent_piece (once 0) made.p0; p1 = lent_piece (once 1) made.p1; p2 = lent_piece (once 2) made.p2; p3 = lent_piece (once 3) made.p3 };
      blocks = record { daram = as_block (want_at wants 4) made.p4; saram = as_block (want_at wants 5) made.p5; external = as_block (want_at wants 6) made.p6 };
    }

-- where a block is needed it is there, of the space's words, its size and its alignment
abbrev pub IsNeeded : Extent → Option Need → Option ScratchBlock → Type 0
IsNeeded owner None None = Unit {0}
IsNeeded owner None (Some b) = ⊥
IsNeeded owner (Some n) None = ⊥
IsNeeded owner (Some n) (Some b) = (b.piece.region ≡ owner) × (length b.piece.words ≡ n.size) × (b.align ≡ n.align)

-- the group's blocks with a new one, if there is one
abbrev pub with_new : ℕ → Option ScratchBlock → List Placed → List Placed
with_new g None blocks = blocks
with_new g (Some b) blocks = with_block (block_of (Scratch g) b.align b.piece) blocks

-- all words of what was placed are the poison word, where there is one
pub record IsPoisoned (word : Option ℤ) (made : Placement) : Type 0 where
  pub own : (k : ℕ) → ArePoison word (piece_words (piece_at made.own k))
  pub shared : (k : ℕ) → ArePoison word (piece_words (piece_at made.shared k))
  pub blocks : (space : Space) → ArePoison word (block_words (new_block made.blocks space))

-- the memory map without these pieces
abbrev pub without_pieces : MemoryMap → OldBlocks → MemoryMap
without_pieces map pieces = each_space (λ space. without_piece (old_piece pieces space) (blocks_in map space))
