-- What a plan lends of pieces and blocks.
use Rattle.std.specs.Prelude.{ℤ, if◌then◌else◌, ◌≤◌, List, length, Option}
use Rattle.space_raw.specs.Span.{Span}
use Rattle.record_loans.specs.declared.plan.Source.{Source}
use Rattle.record_loans.specs.declared.plan.Plan.{Plan}
use Rattle.record_loans.specs.declared.plan.FilterSizes.{FilterSizes}
use Rattle.record_loans.specs.declared.plan.ReaderSizes.{ReaderSizes}
use Rattle.record_loans.specs.declared.plan.SharingSizes.{SharingSizes}
use Rattle.record_loans.specs.Cuts.{is_shared, plan_words, filter_words, reader_words, sharing_words, PlanFits}
use Rattle.record_loans.specs.declared.block.ScratchBlock.{ScratchBlock}
use Rattle.record_loans.specs.declared.pieces.Pieces.{Pieces}
use Rattle.record_loans.specs.Blocks.{block_words}
use Rattle.record_loans.specs.Pieces.{piece_words}

-- the piece of a record: the shared one for a record that is cut out of it
abbrev pub held : Source → Option Span → Option Span → Option Span
held c own shared = if is_shared c then shared else own

-- the words that a plan cuts out of pieces and blocks
abbrev pub lent_by : Plan → Pieces → Pieces → Option ScratchBlock → Option ScratchBlock → Option ScratchBlock → List (List ℤ)
lent_by plan own shared d s e = plan_words plan (piece_words own.p0)
    (piece_words (held plan.first.source own.p1 shared.p1)) (piece_words (held plan.second.source own.p2 shared.p2)) (piece_words (held plan.third.source own.p3 shared.p3))
    (block_words d) (block_words s) (block_words e)

-- there are enough words for a plan
abbrev pub LentFits : Plan → Pieces → Pieces → Option ScratchBlock → Option ScratchBlock → Option ScratchBlock → Type 0
LentFits plan own shared d s e = PlanFits plan (length (piece_words own.p0))
    (length (piece_words (held plan.first.source own.p1 shared.p1))) (length (piece_words (held plan.second.source own.p2 shared.p2))) (length (piece_words (held plan.third.source own.p3 shared.p3)))
    (length (block_words d)) (length (block_words s)) (length (block_words e))

-- what a plan lends of pieces and blocks, as the plan says
abbrev pub lent_from : Pieces → Pieces → Option ScratchBlock → Option ScratchBlock → Option ScratchBlock → Plan → List (List ℤ)
lent_from own shared d s e plan = lent_by plan own shared d s e

-- the words of each record of a filter, in its pieces and the block in `daram`
abbrev pub filter_words_in : FilterSizes → Pieces → Option ScratchBlock → List (List ℤ)
filter_words_in n own d = filter_words n (piece_words own.p0) (piece_words own.p1) (block_words d)

-- the pieces and the block have enough words for a filter
pub record FilterFits (n : FilterSizes) (own : Pieces) (d : Option ScratchBlock) : Type 0 where
  pub object : n.object ≤ length (piece_words own.p0)
  pub kept : n.kept ≤ length (piece_words own.p1)
  pub running : n.running ≤ length (block_words d)

-- the words of each record of a reader, in its own pieces and the one that is lent to it
abbrev pub reader_words_in : ReaderSizes → Pieces → Option Span → List (List ℤ)
reader_words_in n own once = reader_words n (piece_words own.p0) (piece_words once)

-- the pieces have enough words for a reader
pub record ReaderFits (n : ReaderSizes) (own : Pieces) (lent : Option Span) : Type 0 where
  pub object : n.object ≤ length (piece_words own.p0)
  pub once : n.once ≤ length (piece_words lent)

-- the words of each record of a filter that shares its constants, in its own pieces, the one that is lent to it and the block in `daram`
abbrev pub sharing_words_in : SharingSizes → Pieces → Option Span → Option ScratchBlock → List (List ℤ)
sharing_words_in n own once d = sharing_words n (piece_words own.p0) (piece_words own.p1) (piece_words once) (block_words d)

-- the pieces and the block have enough words for such a filter
pub record SharingFits (n : SharingSizes) (own : Pieces) (once : Option Span) (d : Option ScratchBlock) : Type 0 where
  pub object : n.object ≤ length (piece_words own.p0)
  pub kept : n.kept ≤ length (piece_words own.p1)
  pub constants : n.constants ≤ length (piece_words once)
  pub running : n.running ≤ length (block_words d)
