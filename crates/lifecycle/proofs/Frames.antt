-- What stays where only words change.
use Rattle.std.proofs.Common.{◌≡◌, ℕ, ℤ, zero, suc, ◌+◌, List, [], ◌∷◌, length, take, drop, Option, Some, None, refl, ap, sym, ◌∙◌, subst, length-take, length-drop}
use Rattle.space_raw.specs.Span.{Span}
use Rattle.mem_rec.specs.declared.MemRec.{MemRec}
use Rattle.mem_rec.specs.declared.Space.{Space}
use Rattle.mem_rec.specs.declared.Space.TheVariants.{Daram, Saram, External}
use Rattle.mem_rec.specs.declared.Attr.TheVariants.{Scratch, Persist, WriteOnce}
use Rattle.ialg.specs.Records.{record_at, words_of, unplaced}
use Rattle.scratch_group.specs.declared.group.Group.{Group}
use Rattle.record_loans.specs.declared.pieces.Pieces.{Pieces}
use Rattle.record_loans.specs.Blocks.{block_piece, block_words}
use Rattle.scratch_group.specs.Blocks.{block_in, SameGroup}
use Rattle.record_loans.specs.Pieces.{piece_at, piece_words, piece_place, IsSamePiece, SamePieces, IsInSpace}
use Rattle.scratch_group.specs.Words.{words_by, record_words, active_words, scratch_end, scratch_offset, place_by, record_place, with_bases, placed}
use Rattle.scratch_group.proofs.Tables.{unplaced-with_bases}
use Rattle.record_loans.proofs.PieceLemmas.{piece_same, reflexive, same_pieces}
use Rattle.lifecycle.specs.States.{Fits}
use Rattle.std.specs.Int.{next_multiple_of}
use Rattle.ialg.proofs.Tables.{record_at-unplaced}
use Rattle.lifecycle.proofs.Words.{active_words-same, size-same, ends-unplaced}

pub block_same : (a b : Group) (space : Space) → SameGroup a b → IsSamePiece (block_piece (block_in a space)) (block_piece (block_in b space))
block_same a b Daram s = s.daram.0
block_same a b Saram s = s.saram.0
block_same a b External s = s.external.0

-- the blocks are at the same places, with as many words
abbrev pub AreSameBlocks : Group → Group → Type 0
AreSameBlocks a b = (space : Space) → IsSamePiece (block_piece (block_in a space)) (block_piece (block_in b space))

same_length : (a b : Option Span) → IsSamePiece a b → length (piece_words b) ≡ length (piece_words a)
same_length None b e = rw e refl
same_length (Some a) None e = absurd e
same_length (Some a) (Some b) e = e.2

same_space : (a b : Option Span) → IsSamePiece a b → IsInSpace a → IsInSpace b
same_space None b e h = rw e tt
same_space (Some a) None e h = absurd e
same_space (Some a) (Some b) e h = rw e.0 h

take_same : (n : ℕ) (xs ys : List ℤ) → length ys ≡ length xs → length (take n ys) ≡ length (take n xs)
take_same n xs ys e = simp (length-take, e)

record_length : (rs : List MemRec) (own own' shared shared' : Pieces) (g g' : Group) (k : ℕ) → SamePieces own own' → SamePieces shared shared' → AreSameBlocks g g'
    → length (record_words rs own' shared' g' k) ≡ length (record_words rs own shared g k)
record_length rs own own' shared shared' g g' k so ss sb =
    let r = record_at rs k in
    let o = piece_words (piece_at own k) in
    let o' = piece_words (piece_at own' k) in
    let s = piece_words (piece_at shared k) in
    let s' = piece_words (piece_at shared' k) in
    let b = drop (scratch_offset rs k) (block_words (block_in g r.space)) in
    let b' = drop (scratch_offset rs k) (block_words (block_in g' r.space)) in
    elim r.attr as (λ a. length (words_by a r.size o' s' b') ≡ length (words_by a r.size o s b)) [
      | Scratch ↦ take_same r.size b b' (simp (length-drop, same_length _ _ (sb r.space)))
      | Persist ↦ take_same r.size o o' (same_length _ _ (piece_same own own' k so))
      | WriteOnce ↦ take_same r.size s s' (same_length _ _ (piece_same shared shared' k ss))
    ]

all_lengths : (rs : List MemRec) (own own' shared shared' : Pieces) (g g' : Group) (k : ℕ) → SamePieces own own' → SamePieces shared shared' → AreSameBlocks g g'
    → length (words_of (active_words rs own' shared' g') k) ≡ length (words_of (active_words rs own shared g) k)
all_lengths rs own own' shared shared' g g' zero so ss sb = record_length rs own own' shared shared' g g' 0 so ss sb
all_lengths rs own own' shared shared' g g' (suc zero) so ss sb = record_length rs own own' shared shared' g g' 1 so ss sb
all_lengths rs own own' shared shared' g g' (suc (suc zero)) so ss sb = record_length rs own own' shared shared' g g' 2 so ss sb
all_lengths rs own own' shared shared' g g' (suc (suc (suc zero))) so ss sb = record_length rs own own' shared shared' g g' 3 so ss sb
all_lengths rs own own' shared shared' g g' (suc (suc (suc (suc k)))) so ss sb = refl

-- whichever member is active
pub fits_at : (rs : List MemRec) (own own' shared shared' : Pieces) (g g' : Group) → SamePieces own own' → SamePieces shared shared' → AreSameBlocks g g'
    → Fits rs own shared g → Fits rs own' shared' g'
fits_at rs own own' shared shared' g g' so ss sb f = record {
  lent = record {
    sizes = λ k. all_lengths rs own own' shared shared' g g' k so ss sb ∙ f.lent.sizes k;
    apart = f.lent.apart;
  };
  spaces = record {
    own_space = λ k. same_space _ _ (piece_same own own' k so) (f.spaces.own_space k);
    shared_space = λ k. same_space _ _ (piece_same shared shared' k ss) (f.spaces.shared_space k);
    block_space = λ space. same_space _ _ (sb space) (f.spaces.block_space space);
  };
}

pub fits_stay : {rs : List MemRec} {own own' shared shared' : Pieces} {g g' : Group} → SamePieces own own' → SamePieces shared shared' → SameGroup g g'
    → Fits rs own shared g → Fits rs own' shared' g'
fits_stay {rs} {own} {own'} {shared} {shared'} {g} {g'} so ss sg f = fits_at rs own own' shared shared' g g' so ss (λ space. block_same g g' space sg) f

pub same_group : (g : Group) → SameGroup g g
same_group g = record {
  daram = (reflexive (block_piece g.daram), refl);
  saram = (reflexive (block_piece g.saram), refl);
  external = (reflexive (block_piece g.external), refl);
  active = refl;
  activations = refl;
}

-- what a table with bases has of sizes, the table without them has
pub sizes_before : (rs : List MemRec) (own shared : Pieces) (g : Group) (base : ℕ → ℕ) → Fits (with_bases rs base) own shared g
    → (k : ℕ) → length (words_of (active_words rs own shared g) k) ≡ (record_at rs k).size
sizes_before rs own shared g base f k =
    ap (λ wss. length (words_of wss k)) (sym (active_words-same rs (with_bases rs base) own shared g (unplaced-with_bases rs base)))
    ∙ f.lent.sizes k ∙ size-same rs (with_bases rs base) k (unplaced-with_bases rs base)

-- the pieces that came back are those that were asked for
pub sizes_restored : (rs : List MemRec) (own own0 shared : Pieces) (g : Group) → own ≡ own0 → Fits (placed rs own0 shared g) own0 shared g
    → (k : ℕ) → length (words_of (active_words rs own shared g) k) ≡ (record_at rs k).size
sizes_restored rs own own0 shared g e f =
    sizes_before rs own shared g (record_place rs own shared g) (subst (λ (o : Pieces). Fits (placed rs o shared g) o shared g) (sym e) f)

pub fits_settled : (rs rs' : List MemRec) (own own0 shared : Pieces) (g : Group) → own ≡ own0 → rs' ≡ placed rs own shared g → Fits (placed rs own0 shared g) own0 shared g
    → Fits rs' own shared g
fits_settled rs rs' own own0 shared g e er f =
    subst (λ (ts : List MemRec). Fits ts own shared g) (sym er) (subst (λ (o : Pieces). Fits (placed rs o shared g) o shared g) (sym e) f)

pub unplaced-placed : (rs rs' : List MemRec) (own shared : Pieces) (g : Group) → rs' ≡ placed rs own shared g → unplaced rs ≡ unplaced rs'
unplaced-placed rs rs' own shared g e = sym (ap unplaced e ∙ unplaced-with_bases rs (record_place rs own shared g))

-- another member was active meanwhile
pub fits_beside : (rs : List MemRec) (own shared : Pieces) (g g' : Group) → SameGroup g g' → Fits rs own shared g → Fits rs own shared g'
fits_beside rs own shared g g' sg f = fits_stay (same_pieces own) (same_pieces shared) sg f

-- where records are placed, the old bases don't matter: so what fits without bases fits after a move

with_bases-unplaced : (rs : List MemRec) (base : ℕ → ℕ) → with_bases (unplaced rs) base ≡ with_bases rs base
with_bases-unplaced [] base = refl
with_bases-unplaced (r ∷ rs) base = ap (λ (ts : List MemRec). record r { base = base 0 } ∷ ts) (with_bases-unplaced rs (λ k. base (suc k)))

record_place-unplaced : (rs : List MemRec) (own shared : Pieces) (g : Group) (k : ℕ) → record_place (unplaced rs) own shared g k ≡ record_place rs own shared g k
record_place-unplaced rs own shared g k =
    let o = piece_place (piece_at own k) in
    let s = piece_place (piece_at shared k) in
    ap (λ (r : MemRec). place_by r.attr o s (piece_place (block_piece (block_in g r.space)) + next_multiple_of (scratch_end (unplaced rs) k r.space) r.align)) (record_at-unplaced rs k)
    ∙ ap (λ n. place_by (record_at rs k).attr o s (piece_place (block_piece (block_in g (record_at rs k).space)) + next_multiple_of n (record_at rs k).align)) (ends-unplaced rs k 0 (record_at rs k).space)

pub placed-unplaced : (rs : List MemRec) (own shared : Pieces) (g : Group) → placed (unplaced rs) own shared g ≡ placed rs own shared g
placed-unplaced rs own shared g =
    with_bases-unplaced rs (record_place (unplaced rs) own shared g) ∙ ap (with_bases rs) (λ i k. record_place-unplaced rs own shared g k i)

pub fits_by_places : (rs rs' : List MemRec) (own shared : Pieces) (g : Group) → unplaced rs' ≡ unplaced rs → Fits (placed rs own shared g) own shared g → Fits (placed rs' own shared g) own shared g
fits_by_places rs rs' own shared g e fits =
    subst (λ (ts : List MemRec). Fits ts own shared g)
    (sym (placed-unplaced rs own shared g) ∙ ap (λ (ts : List MemRec). placed ts own shared g) (sym e) ∙ placed-unplaced rs' own shared g) fits
