-- The tables of the tests have their words.
use Rattle.std.proofs.Common.{◌≡◌, ℕ, ℤ, zero, suc, ◌+◌, ◌≤◌, List, length, take, drop, Option, Some, None, refl, ap, sym, ◌∙◌, subst, arith, length-take, length-drop}
use Rattle.std.proofs.lemmas.List.{length-replicate}
use Rattle.space_raw.specs.Span.{Span, Extent, IsWhole}
use Rattle.mem_rec.specs.declared.MemRec.{MemRec}
use Rattle.mem_rec.specs.declared.Space.{Space}
use Rattle.mem_rec.specs.declared.Space.TheVariants.{Daram, Saram, External}
use Rattle.record_loans.specs.declared.pieces.Pieces.{Pieces}
use Rattle.record_loans.specs.declared.block.ScratchBlock.{ScratchBlock}
use Rattle.record_loans.specs.Blocks.{block_words, block_piece, IsSameBlock}
use Rattle.record_loans.specs.Pieces.{piece_words, IsSamePiece}
use Rattle.scratch_group.specs.declared.group.Group.{Group}
use Rattle.scratch_group.specs.Blocks.{block_in, filled, SameBut, SameGroup}
use Rattle.scratch_group.specs.Words.{HasWords}
use Rattle.test_memory.specs.Tables.{two_spaces, one_space}

cut : (n at : ℕ) (xs : List ℤ) → at + n ≤ length xs → length (take n (drop at xs)) ≡ n
cut n at xs h = omega (arith, length-take n (drop at xs), length-drop at xs)

first : (n : ℕ) (xs : List ℤ) → n ≤ length xs → length (take n xs) ≡ n
first n xs h = omega (arith, length-take n xs)

two_have : (own shared : Pieces) (g : Group) → 4 ≤ length (piece_words own.p0) → 5 ≤ length (piece_words shared.p1) → 5 ≤ length (block_words g.daram) → 3 ≤ length (block_words g.saram)
    → HasWords two_spaces own shared g
two_have own shared g h0 h1 h2 h3 zero = first 4 (piece_words own.p0) h0
two_have own shared g h0 h1 h2 h3 (suc zero) = first 5 (piece_words shared.p1) h1
two_have own shared g h0 h1 h2 h3 (suc (suc zero)) = cut 5 0 (block_words g.daram) h2
two_have own shared g h0 h1 h2 h3 (suc (suc (suc zero))) = cut 3 0 (block_words g.saram) h3
two_have own shared g h0 h1 h2 h3 (suc (suc (suc (suc k)))) = refl

pub two_have_words : (rs : List MemRec) (own shared : Pieces) (g : Group) → rs ≡ two_spaces
    → 4 ≤ length (piece_words own.p0) → 5 ≤ length (piece_words shared.p1) → 5 ≤ length (block_words g.daram) → 3 ≤ length (block_words g.saram)
    → HasWords rs own shared g
two_have_words rs own shared g e h0 h1 h2 h3 = subst (λ (ts : List MemRec). HasWords ts own shared g) (sym e) (two_have own shared g h0 h1 h2 h3)

one_has : (own shared : Pieces) (g : Group) → 4 ≤ length (piece_words own.p0) → 26 ≤ length (block_words g.daram) → HasWords one_space own shared g
one_has own shared g h0 h1 zero = first 4 (piece_words own.p0) h0
one_has own shared g h0 h1 (suc zero) = cut 3 0 (block_words g.daram) (omega (arith, h1))
one_has own shared g h0 h1 (suc (suc zero)) = cut 5 16 (block_words g.daram) (omega (arith, h1))
one_has own shared g h0 h1 (suc (suc (suc zero))) = cut 2 24 (block_words g.daram) (omega (arith, h1))
one_has own shared g h0 h1 (suc (suc (suc (suc k)))) = refl

pub one_has_words : (rs : List MemRec) (own shared : Pieces) (g : Group) → rs ≡ one_space → 4 ≤ length (piece_words own.p0) → 26 ≤ length (block_words g.daram) → HasWords rs own shared g
one_has_words rs own shared g e h0 h1 = subst (λ (ts : List MemRec). HasWords ts own shared g) (sym e) (one_has own shared g h0 h1)

-- blocks that come and go

daram_is_not_saram : Daram ≡ Saram → ⊥
daram_is_not_saram h = cc

saram_is_not_daram : Saram ≡ Daram → ⊥
saram_is_not_daram h = cc

external_is_not_daram : External ≡ Daram → ⊥
external_is_not_daram h = cc

external_is_not_saram : External ≡ Saram → ⊥
external_is_not_saram h = cc

none_stays : (b b' : Option ScratchBlock) → IsSameBlock b b' → b ≡ None → b' ≡ None
none_stays None None same e = refl
none_stays None (Some b) same e = let p = same.0 in cc
none_stays (Some b) b' same e = cc

-- one block came, was lent, and went
pub one_gone : (g0 g1 g2 g3 : Group) → ((space : Space) → block_in g0 space ≡ None) → SameBut Daram g0 g1 → SameGroup g1 g2 → SameBut Daram g2 g3 → g3.daram ≡ None
    → (space : Space) → block_in g3 space ≡ None
one_gone g0 g1 g2 g3 none came lent went gone Daram = gone
one_gone g0 g1 g2 g3 none came lent went gone Saram =
    went.others Saram saram_is_not_daram ∙ none_stays g1.saram g2.saram lent.saram (came.others Saram saram_is_not_daram ∙ none Saram)
one_gone g0 g1 g2 g3 none came lent went gone External =
    went.others External external_is_not_daram ∙ none_stays g1.external g2.external lent.external (came.others External external_is_not_daram ∙ none External)

-- a block in `daram` and then one in `saram` came, were lent, and went
pub two_gone : (g0 g1 g2 g3 g4 g5 : Group) → ((space : Space) → block_in g0 space ≡ None) → SameBut Daram g0 g1 → SameBut Saram g1 g2 → SameGroup g2 g3
    → SameBut Daram g3 g4 → g4.daram ≡ None → SameBut Saram g4 g5 → g5.saram ≡ None → (space : Space) → block_in g5 space ≡ None
two_gone g0 g1 g2 g3 g4 g5 none a b lent c d e f Daram = e.others Daram daram_is_not_saram ∙ d
two_gone g0 g1 g2 g3 g4 g5 none a b lent c d e f Saram = f
two_gone g0 g1 g2 g3 g4 g5 none a b lent c d e f External =
    e.others External external_is_not_saram ∙ c.others External external_is_not_daram
    ∙ none_stays g2.external g3.external lent.external (b.others External external_is_not_saram ∙ a.others External external_is_not_daram ∙ none External)

pub first_stays : (b : ScratchBlock) (g1 g2 : Group) → SameBut Saram g1 g2 → g1.daram ≡ Some b → g2.daram ≡ Some b
first_stays b g1 g2 same e = same.others Daram daram_is_not_saram ∙ e

pub second_stays : (g3 g4 : Group) → SameBut Daram g3 g4 → g4.saram ≡ g3.saram
second_stays g3 g4 same = same.others Saram saram_is_not_daram

-- what was lent is the same piece still
pub same_span : (b : ScratchBlock) (b1 b2 : Option ScratchBlock) (s : Span) → b1 ≡ Some b → IsSameBlock b1 b2 → block_piece b2 ≡ Some s → IsSamePiece (Some b.piece) (Some s)
same_span b b1 b2 s e1 same e2 =
    subst (λ (p : Option Span). IsSamePiece (Some b.piece) p) e2 (subst (λ (x : Option ScratchBlock). IsSamePiece (block_piece x) (block_piece b2)) e1 same.0)

-- and so is what was filled
pub filled_span : (v : ℤ) (b : ScratchBlock) (b1 b2 : Option ScratchBlock) (s : Span) → b1 ≡ Some b → b2 ≡ filled v b1 → block_piece b2 ≡ Some s → IsSamePiece (Some b.piece) (Some s)
filled_span v b b1 b2 s e1 fill e2 =
    subst (λ (p : Option Span). IsSamePiece (Some b.piece) p) (sym (ap block_piece (fill ∙ ap (filled v) e1)) ∙ e2) (refl, refl, length-replicate (length b.piece.words) v)

-- a piece that is the same as a whole region's is whole
pub still_whole : (p s : Span) (r : Extent) → (p.region ≡ r) × IsWhole p → IsSamePiece (Some p) (Some s) → (s.region ≡ r) × IsWhole s
still_whole p s r whole same = (same.0 ∙ whole.0, (same.1 ∙ whole.1.0, same.2 ∙ whole.1.1 ∙ ap (λ (x : Extent). x.size) (sym same.0)))
