-- An instance stays where it is while only words and states change.
use Rattle.std.proofs.Common.{◌≡◌, ℕ, ℤ, ◌+◌, List, [], ◌∷◌, length, drop, Option, Some, None, refl, ap, sym, ◌∙◌, subst, arith}
use Rattle.std.proofs.lemmas.List.{length-replicate}
use Rattle.std.proofs.lemmas.Option.{none-some}
use Rattle.space_raw.specs.Span.{Span}
use Rattle.mem_rec.specs.declared.MemRec.{MemRec}
use Rattle.mem_rec.specs.declared.Space.{Space}
use Rattle.mem_rec.specs.declared.Space.TheVariants.{Daram, Saram, External}
use Rattle.ialg.specs.Meaning.{Meaning}
use Rattle.ialg.specs.Records.{record_at}
use Rattle.record_loans.specs.declared.pieces.Pieces.{Pieces}
use Rattle.record_loans.specs.declared.block.ScratchBlock.{ScratchBlock}
use Rattle.record_loans.specs.Pieces.{piece_at, piece_words, piece_place, IsSamePiece, SamePieces}
use Rattle.record_loans.specs.Blocks.{block_piece, block_words, IsSameBlock}
use Rattle.scratch_group.specs.declared.group.Group.{Group}
use Rattle.scratch_group.specs.Blocks.{block_in, filled, SameGroup, BlocksArePoison}
use Rattle.scratch_group.specs.Words.{words_by, record_words, active_words, scratch_offset, place_by, record_place, with_bases, placed}
use Rattle.lifecycle.specs.declared.instance.Instance.{Instance}
use Rattle.lifecycle.specs.States.{Fits, SameInstance, IsLawful}
use Rattle.lifecycle.specs.Moves.{settled, HasRoom}
use Rattle.scratch_group.proofs.Tables.{unplaced-with_bases}
use Rattle.record_loans.proofs.PieceLemmas.{piece_same, same_pieces}
use Rattle.lifecycle.proofs.Frames.{fits_at, placed-unplaced, same_group}
use Rattle.lifecycle.proofs.Groups.{same_blocks}
use Rattle.host_table.specs.Table.{IsHoused}

place_same : (a b : Option Span) → IsSamePiece a b → piece_place b ≡ piece_place a
place_same None b e = rw e refl
place_same (Some a) None e = absurd e
place_same (Some a) (Some b) e = e.1

record_place_stays : (rs : List MemRec) (own own' shared shared' : Pieces) (g g' : Group) → SamePieces own own' → SamePieces shared shared'
    → ((space : Space) → IsSameBlock (block_in g space) (block_in g' space)) → (k : ℕ) → record_place rs own' shared' g' k ≡ record_place rs own shared g k
record_place_stays rs own own' shared shared' g g' so ss sb k =
    let r = record_at rs k in
    let o = place_same _ _ (piece_same own own' k so) in
    let s = place_same _ _ (piece_same shared shared' k ss) in
    let b = place_same _ _ (sb r.space).0 in
    ap (λ n. place_by r.attr n (piece_place (piece_at shared' k)) (piece_place (block_piece (block_in g' r.space)) + scratch_offset rs k)) o
    ∙ ap (λ n. place_by r.attr (piece_place (piece_at own k)) n (piece_place (block_piece (block_in g' r.space)) + scratch_offset rs k)) s
    ∙ ap (λ n. place_by r.attr (piece_place (piece_at own k)) (piece_place (piece_at shared k)) (n + scratch_offset rs k)) b

pub placed_stays : (rs : List MemRec) (own own' shared shared' : Pieces) (g g' : Group) → SamePieces own own' → SamePieces shared shared'
    → ((space : Space) → IsSameBlock (block_in g space) (block_in g' space)) → placed rs own' shared' g' ≡ placed rs own shared g
placed_stays rs own own' shared shared' g g' so ss sb =
    ap (with_bases rs) (λ i k. record_place_stays rs own own' shared shared' g g' so ss sb k i)

pub housed_stays : {M : Type 0} (s s' : Instance M) (shared shared' : Pieces) (g g' : Group) → SameInstance s s' → SamePieces shared shared'
    → ((space : Space) → IsSameBlock (block_in g space) (block_in g' space)) → IsHoused s shared g → IsHoused s' shared' g'
housed_stays s s' shared shared' g g' same ss sb h = record {
  fits = subst (λ (t : List MemRec). Fits t s'.own shared' g') (sym same.table)
      (fits_at s.table s.own s'.own shared shared' g g' same.own ss (λ space. (sb space).0) h.fits);
  settled = same.table ∙ h.settled ∙ sym (placed_stays s.table s.own s'.own shared shared' g g' same.own ss sb)
      ∙ ap (λ (t : List MemRec). placed t s'.own shared' g') (sym same.table);
}

-- so it does while another instance is called
pub housed_beside : {M : Type 0} (s : Instance M) (shared shared' : Pieces) (g : Group) → SamePieces shared shared' → IsHoused s shared g → IsHoused s shared' g
housed_beside s shared shared' g ss h =
    housed_stays s s shared shared' g g (record { kind = refl; params = refl; table = refl; own = same_pieces s.own }) ss (same_blocks g g (same_group g)) h

-- only sizes, alignments, spaces and kinds of records say where they are placed
placed_again : (rs : List MemRec) (own own' shared shared' : Pieces) (g g' : Group) → placed (placed rs own shared g) own' shared' g' ≡ placed rs own' shared' g'
placed_again rs own own' shared shared' g g' =
    sym (placed-unplaced (placed rs own shared g) own' shared' g')
    ∙ ap (λ (ts : List MemRec). placed ts own' shared' g') (unplaced-with_bases rs (record_place rs own shared g))
    ∙ placed-unplaced rs own' shared' g'

-- an instance that has been given its places goes by them
pub settled_at : {M : Type 0} (s s' : Instance M) (shared shared' : Pieces) (g g' : Group) → SameInstance (settled s shared g) s' → SamePieces shared shared'
    → ((space : Space) → IsSameBlock (block_in g space) (block_in g' space)) → s'.table ≡ placed s'.table s'.own shared' g'
settled_at s s' shared shared' g g' same ss sb =
    same.table ∙ sym (placed_stays s.table s.own s'.own shared shared' g g' same.own ss sb)
    ∙ sym (placed_again s.table s.own s'.own shared shared' g g')
    ∙ ap (λ (t : List MemRec). placed t s'.own shared' g') (sym same.table)

pub settled_stays : {M : Type 0} (s s' : Instance M) (shared shared' : Pieces) (g : Group) → SameInstance (settled s shared g) s' → SamePieces shared shared'
    → s'.table ≡ placed s'.table s'.own shared' g
settled_stays s s' shared shared' g same ss = settled_at s s' shared shared' g g same ss (same_blocks g g (same_group g))

pub room_of_housed : {M : Type 0} (s : Instance M) (shared : Pieces) (g : Group) → IsHoused s shared g → HasRoom s shared g
room_of_housed s shared g h = subst (λ (t : List MemRec). Fits t s.own shared g) h.settled h.fits

pub room_stays : {M : Type 0} (s : Instance M) (shared shared' : Pieces) (g g' : Group) → SamePieces shared shared'
    → ((space : Space) → IsSameBlock (block_in g space) (block_in g' space)) → HasRoom s shared g → HasRoom s shared' g'
room_stays s shared shared' g g' ss sb room =
    subst (λ (t : List MemRec). Fits t s.own shared' g') (sym (placed_stays s.table s.own s.own shared shared' g g' (same_pieces s.own) ss sb))
    (fits_at (placed s.table s.own shared g) s.own s.own shared shared' g g' (same_pieces s.own) ss (λ space. (sb space).0) room)

-- a lawful instance was lawful before
pub lawful_before : {M : Type 0} (meaning : Meaning M) (s s' : Instance M) (w : Option ℤ) → SameInstance s s' → IsLawful meaning s' w → IsLawful meaning s w
lawful_before meaning s s' w same lawful = rw (same.kind, same.params) at lawful

-- where a group has no blocks, these hold any poison word
pub none_poisoned : (w : Option ℤ) (g : Group) → ((space : Space) → block_in g space ≡ None) → BlocksArePoison w g
none_poisoned None g none space = tt
none_poisoned (Some v) g none space = rw (none space) (λ k d below. absurd (omega (arith, below)))

pub lawful_after : {M : Type 0} (meaning : Meaning M) (s s' : Instance M) (w : Option ℤ) → SameInstance s s' → IsLawful meaning s w → IsLawful meaning s' w
lawful_after meaning s s' w same lawful = rw (same.kind, same.params) lawful
