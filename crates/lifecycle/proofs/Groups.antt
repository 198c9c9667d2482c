-- A group whose words may have changed, or whose active member has.
use Rattle.std.proofs.Common.{◌≡◌, ℕ, ℤ, List, [], ◌∷◌, length, drop, Option, Some, None, ap, sym, ◌∙◌}
use Rattle.std.proofs.lemmas.List.{length-replicate}
use Rattle.std.proofs.lemmas.Option.{none-some}
use Rattle.mem_rec.specs.declared.MemRec.{MemRec}
use Rattle.mem_rec.specs.declared.Space.{Space}
use Rattle.mem_rec.specs.declared.Space.TheVariants.{Daram, Saram, External}
use Rattle.ialg.specs.Records.{record_at}
use Rattle.record_loans.specs.declared.pieces.Pieces.{Pieces}
use Rattle.record_loans.specs.declared.block.ScratchBlock.{ScratchBlock}
use Rattle.record_loans.specs.Pieces.{piece_at, piece_words}
use Rattle.record_loans.specs.Blocks.{block_words, IsSameBlock}
use Rattle.scratch_group.specs.declared.group.Group.{Group}
use Rattle.scratch_group.specs.Blocks.{block_in, filled, SameGroup}
use Rattle.scratch_group.specs.Words.{words_by, record_words, active_words, scratch_offset}

-- the words of records are those of the blocks, whichever member is active
record_words_at : (rs : List MemRec) (own shared : Pieces) (g g' : Group) → ((space : Space) → block_in g' space ≡ block_in g space) → (k : ℕ)
    → record_words rs own shared g' k ≡ record_words rs own shared g k
record_words_at rs own shared g g' same k =
    ap (λ (b : Option ScratchBlock). words_by (record_at rs k).attr (record_at rs k).size (piece_words (piece_at own k)) (piece_words (piece_at shared k)) (drop (scratch_offset rs k) (block_words b)))
    (same (record_at rs k).space)

pub active_words_at : (rs : List MemRec) (own shared : Pieces) (g g' : Group) → ((space : Space) → block_in g' space ≡ block_in g space)
    → active_words rs own shared g' ≡ active_words rs own shared g
active_words_at rs own shared g g' same =
    let old = record_words rs own shared g in
    let new = record_words rs own shared g' in
    let f = record_words_at rs own shared g g' same in
    ap (λ (ws : List ℤ). ws ∷ new 1 ∷ new 2 ∷ new 3 ∷ []) (f 0)
    ∙ ap (λ (ws : List ℤ). old 0 ∷ ws ∷ new 2 ∷ new 3 ∷ []) (f 1)
    ∙ ap (λ (ws : List ℤ). old 0 ∷ old 1 ∷ ws ∷ new 3 ∷ []) (f 2)
    ∙ ap (λ (ws : List ℤ). old 0 ∷ old 1 ∷ old 2 ∷ ws ∷ []) (f 3)

pub same_blocks : (a b : Group) → SameGroup a b → (space : Space) → IsSameBlock (block_in a space) (block_in b space)
same_blocks a b s Daram = s.daram
same_blocks a b s Saram = s.saram
same_blocks a b s External = s.external

pub same_filled : (a b : Option ScratchBlock) (v : ℤ) → IsSameBlock a b → IsSameBlock a (filled v b)
same_filled None None v e = e
same_filled None (Some b) v e = absurd (none-some _ (sym e.0))
same_filled (Some a) None v e = absurd e.0
same_filled (Some a) (Some b) v e = ((e.0.0, e.0.1, length-replicate (length b.piece.words) v ∙ e.0.2), e.1)
