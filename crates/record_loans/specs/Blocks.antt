-- Blocks of scratch memory.
use Rattle.std.specs.Prelude.{ℕ, ℤ, ◌≡◌, List, Option, Some, None}
use Rattle.space_raw.specs.Span.{Span}
use Rattle.record_loans.specs.declared.block.ScratchBlock.{ScratchBlock}
use Rattle.record_loans.specs.Pieces.{piece_words, IsSamePiece}

-- the piece of a block
abbrev pub block_piece : Option ScratchBlock → Option Span
block_piece None = None
block_piece (Some b) = Some b.piece

-- the words of a block, none where there is none
abbrev pub block_words : Option ScratchBlock → List ℤ
block_words b = piece_words (block_piece b)

-- its alignment, 0 where there is none
abbrev pub block_align : Option ScratchBlock → ℕ
block_align None = 0
block_align (Some b) = b.align

-- the same block, whose words may differ
abbrev pub IsSameBlock : Option ScratchBlock → Option ScratchBlock → Type 0
IsSameBlock old new = IsSamePiece (block_piece old) (block_piece new) × (block_align new ≡ block_align old)
