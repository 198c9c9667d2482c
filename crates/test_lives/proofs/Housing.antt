-- A filter fits in pieces and a block of its sizes.
use Rattle.std.proofs.Common.{◌≡◌, ℕ, ℤ, zero, suc, ◌≤◌, ◌<◌, Bool, true, false, List, [], ◌∷◌, length, take, Option, Some, None, option_map, refl, ap, sym, ◌∙◌, subst, arith, length-take}
use Rattle.std.specs.Prelude.{if◌then◌else◌, ◌||◌, ◌&&◌, nat_eq, nat_le, MatchOption}
use Rattle.std.proofs.lemmas.Bool.Decides.{nat_tests}
use Rattle.space_raw.specs.Span.{Span, Extent, IsWhole}
use Rattle.mem_rec.specs.declared.TheConstants.{RECORD_WORDS}
use Rattle.mem_rec.specs.declared.MemRec.{MemRec}
use Rattle.mem_rec.specs.declared.Space.{Space}
use Rattle.mem_rec.specs.declared.Space.TheVariants.{Daram, Saram, External}
use Rattle.ialg.specs.Records.{record_at}
use Rattle.ialg.specs.Filters.{filter_records}
use Rattle.alg_fir.specs.Meaning.{fir_memory}
use Rattle.record_loans.specs.declared.block.ScratchBlock.{ScratchBlock}
use Rattle.record_loans.specs.declared.pieces.Pieces.{Pieces}
use Rattle.record_loans.specs.Blocks.{block_piece, IsSameBlock}
use Rattle.record_loans.specs.Pieces.{piece_at, IsInSpace, IsSamePiece, SamePieces, no_pieces}
use Rattle.scratch_group.specs.declared.group.Group.{Group}
use Rattle.scratch_group.specs.declared.group.Need.{Need}
use Rattle.scratch_group.specs.Blocks.{block_in, block_needed, SameBut, SameGroup}
use Rattle.scratch_group.specs.Words.{placed, HasPieces}
use Rattle.lifecycle.specs.Rooms.{NoNeed, AreSeparate, piece_of_record}
use Rattle.lifecycle.specs.States.{Fits}
use Rattle.lifecycle.proofs.Places.{there_is_room}
use Rattle.record_loans.proofs.PieceLemmas.{same_pieces}
use Rattle.host_shared.specs.declared.locations.Locations.{Locations}
use Rattle.host_shared.specs.Locations.{shared_at}
use Rattle.host_shared.specs.Owners.{OnlyItsPiecesChange}
use Rattle.host_shared.proofs.Owners.{count_seen}
use Rattle.lifecycle.specs.declared.instance.Instance.{Instance}
use Rattle.lifecycle.specs.States.{SameInstance}
use Rattle.lifecycle.specs.Turns.{CanBeLent}
use Rattle.lifecycle.proofs.Frames.{fits_at}
use Rattle.test_lives.specs.Blocks.{SameBlocks}
use Rattle.test_lives.specs.Owners.{two_taps, IsAllOf, IsPieceThere, IsReady}

none_needed : (t : Bool) (x : Need) → t ≡ true → (if t then None else Some x) ≡ None
none_needed true x h = refl
none_needed false x h = cc

large_enough : (need align n fine : ℕ) → need ≤ n → align ≤ fine → (nat_eq need 0 || nat_le need n && nat_le align fine) ≡ true
large_enough need align n fine h a = grind (arith, nat_tests)

pub block_serves : (b : ScratchBlock) (need align : ℕ) → need ≤ length b.piece.words → align ≤ b.align → block_needed (Some b) need align ≡ None
block_serves b need align h a = none_needed _ _ (large_enough need align (length b.piece.words) b.align h a)

pub first : (n : ℕ) (xs : List ℤ) → n ≤ length xs → length (take n xs) ≡ n
first n xs h = omega (arith, length-take n xs)

module _ (o q : Span) (b : ScratchBlock) (active : Option ℕ) (activations : ℕ) (ho : IsPieceThere 4 o) (hq : IsPieceThere 4 q) (hb : IsPieceThere 1028 b.piece) (fine : b.align ≡ 16) where
  abbrev own : Pieces
  own = record { p0 = Some o; p1 = Some q; p2 = None; p3 = None }

  abbrev g : Group
  g = record { daram = Some b; saram = None; external = None; active = active; activations = activations }

  need : NoNeed two_taps g
  need Daram = block_serves b 1028 16 (omega (arith, hb.words)) (omega (arith, fine))
  need Saram = refl
  need External = refl

  has : HasPieces two_taps own no_pieces
  has zero = first 4 o.words (omega (arith, ho.words))
  has (suc zero) = first 3 q.words (omega (arith, hq.words))
  has (suc (suc zero)) = refl
  has (suc (suc (suc zero))) = refl
  has (suc (suc (suc (suc k)))) = refl

  pieces_apart : (j k : ℕ) → j < k → k < 3 → (record_at two_taps j).space ≡ (record_at two_taps k).space
      → AreSeparate (piece_of_record two_taps own no_pieces j) (piece_of_record two_taps own no_pieces k)
  pieces_apart zero zero h t e = absurd (omega (arith, h))
  pieces_apart zero (suc zero) h t e = cc
  pieces_apart zero (suc (suc zero)) h t e = cc
  pieces_apart zero (suc (suc (suc k))) h t e = absurd (omega (arith, t))
  pieces_apart (suc zero) zero h t e = absurd (omega (arith, h))
  pieces_apart (suc zero) (suc zero) h t e = absurd (omega (arith, h))
  pieces_apart (suc zero) (suc (suc zero)) h t e = cc
  pieces_apart (suc zero) (suc (suc (suc k))) h t e = absurd (omega (arith, t))
  pieces_apart (suc (suc j)) k h t e = absurd (omega (arith, h, t))

  block_apart : (k : ℕ) → k < 3 → AreSeparate (piece_of_record two_taps own no_pieces k) (block_piece (block_in g (record_at two_taps k).space))
  block_apart zero t = tt
  block_apart (suc zero) t = tt
  block_apart (suc (suc zero)) t = tt
  block_apart (suc (suc (suc k))) t = absurd (omega (arith, t))

  own_in : (k : ℕ) → IsInSpace (piece_at own k)
  own_in zero = ho.region
  own_in (suc zero) = hq.region
  own_in (suc (suc zero)) = tt
  own_in (suc (suc (suc zero))) = tt
  own_in (suc (suc (suc (suc k)))) = tt

  none_in : (k : ℕ) → IsInSpace (piece_at no_pieces k)
  none_in zero = tt
  none_in (suc zero) = tt
  none_in (suc (suc zero)) = tt
  none_in (suc (suc (suc zero))) = tt
  none_in (suc (suc (suc (suc k)))) = tt

  block_in_space : (space : Space) → IsInSpace (block_piece (block_in g space))
  block_in_space Daram = hb.region
  block_in_space Saram = tt
  block_in_space External = tt

  there_fits : Fits (placed two_taps own no_pieces g) own no_pieces g
  there_fits = there_is_room two_taps own no_pieces g refl need has (record { pieces = pieces_apart; block = block_apart })
      (record { own_space = own_in; shared_space = none_in; block_space = block_in_space })

-- the group's parts are known
any_group : (o q : Span) (d s e : Option ScratchBlock) (active : Option ℕ) (activations : ℕ) → IsPieceThere 4 o → IsPieceThere 4 q
    → MatchOption d ⊥ (λ b. IsPieceThere 1028 b.piece × (b.align ≡ 16)) → s ≡ None → e ≡ None
    → Fits (placed two_taps (record { p0 = Some o; p1 = Some q; p2 = None; p3 = None }) no_pieces (record { daram = d; saram = s; external = e; active = active; activations = activations }))
    (record { p0 = Some o; p1 = Some q; p2 = None; p3 = None }) no_pieces (record { daram = d; saram = s; external = e; active = active; activations = activations })
any_group o q None s e active activations ho hq hb es ee = absurd hb
any_group o q (Some b) None None active activations ho hq hb es ee = there_fits o q b active activations ho hq hb.0 hb.1
any_group o q (Some b) (Some s) e active activations ho hq hb es ee = cc
any_group o q (Some b) None (Some e) active activations ho hq hb es ee = cc

pub filter_fits : (rs : List MemRec) (shared : Pieces) (o q : Span) (g : Group) → rs ≡ two_taps → shared ≡ no_pieces → IsPieceThere 4 o → IsPieceThere 4 q → IsReady g
    → Fits (placed rs (record { p0 = Some o; p1 = Some q; p2 = None; p3 = None }) shared g) (record { p0 = Some o; p1 = Some q; p2 = None; p3 = None }) shared g
filter_fits rs shared o q g er es ho hq ready =
    subst (λ (ts : List MemRec). Fits (placed ts (record { p0 = Some o; p1 = Some q; p2 = None; p3 = None }) shared g) (record { p0 = Some o; p1 = Some q; p2 = None; p3 = None }) shared g) (sym er)
    (subst (λ (ps : Pieces). Fits (placed two_taps (record { p0 = Some o; p1 = Some q; p2 = None; p3 = None }) ps g) (record { p0 = Some o; p1 = Some q; p2 = None; p3 = None }) ps g) (sym es)
    (any_group o q g.daram g.saram g.external g.active g.activations ho hq ready.daram ready.saram ready.external))

-- the same piece after one call and another

pub same_then : (a b c : Option Span) → IsSamePiece a b → IsSamePiece b c → IsSamePiece a c
same_then None None c e f = f
same_then None (Some b) c e f = cc
same_then (Some a) None c e f = absurd e
same_then (Some a) (Some b) None e f = absurd f
same_then (Some a) (Some b) (Some c) e f = (f.0 ∙ e.0, f.1 ∙ e.1, f.2 ∙ e.2)

pub still_whole : (p s : Span) (r : Extent) → (p.region ≡ r) × IsWhole p → IsSamePiece (Some p) (Some s) → (s.region ≡ r) × IsWhole s
still_whole p s r whole same = (same.0 ∙ whole.0, (same.1 ∙ whole.1.0, same.2 ∙ whole.1.1 ∙ ap (λ (x : Extent). x.size) (sym same.0)))

-- the records of a filter of two coefficients

pub memory_of_two : (p : List ℤ) → length p ≡ 2 → option_map filter_records (fir_memory p) ≡ Some two_taps
memory_of_two [] h = absurd (omega (arith, h))
memory_of_two (x ∷ []) h = absurd (omega (arith, h))
memory_of_two (x ∷ y ∷ []) h = refl
memory_of_two (x ∷ y ∷ z ∷ p) h = absurd (omega (arith, h))

pub same_pieces_then : (a b c : Pieces) → SamePieces a b → SamePieces b c → SamePieces a c
same_pieces_then a b c e f = record {
  p0 = same_then a.p0 b.p0 c.p0 e.p0 f.p0;
  p1 = same_then a.p1 b.p1 c.p1 e.p1 f.p1;
  p2 = same_then a.p2 b.p2 c.p2 e.p2 f.p2;
  p3 = same_then a.p3 b.p3 c.p3 e.p3 f.p3;
}

-- the same group after one call and another

same_block_then : (a b c : Option ScratchBlock) → IsSameBlock a b → IsSameBlock b c → IsSameBlock a c
same_block_then a b c e f = (same_then (block_piece a) (block_piece b) (block_piece c) e.0 f.0, f.1 ∙ e.1)

pub same_blocks_then : (a b c : Group) → SameBlocks a b → SameBlocks b c → SameBlocks a c
same_blocks_then a b c e f space = same_block_then (block_in a space) (block_in b space) (block_in c space) (e space) (f space)

pub owner : (n : ℕ) (p : Span) (r : Extent) → n ≤ RECORD_WORDS → r.size ≡ n → (p.region ≡ r) × IsWhole p → IsPieceThere n p
owner n p r few size whole =
    let same = ap (λ (x : Extent). x.size) whole.0 ∙ size in
    record { words = whole.1.1 ∙ same; region = rw same few }

pub saram_is_not_daram : Saram ≡ Daram → ⊥
saram_is_not_daram h = cc

pub external_is_not_daram : External ≡ Daram → ⊥
external_is_not_daram h = cc

pub ready_group : (g0 g1 : Group) (p : Span) → ((space : Space) → block_in g0 space ≡ None) → g1.daram ≡ Some (record { piece = p; align = 16 }) → SameBut Daram g0 g1 → IsPieceThere 1028 p
    → IsReady g1
ready_group g0 g1 p none e same h = record {
  daram = subst (λ (b : Option ScratchBlock). MatchOption b ⊥ (λ x. IsPieceThere 1028 x.piece × (x.align ≡ 16))) (sym e) (h, refl);
  saram = same.others Saram saram_is_not_daram ∙ none Saram;
  external = same.others External external_is_not_daram ∙ none External;
}

pub none_stays : (b b' : Option ScratchBlock) → IsSameBlock b b' → b ≡ None → b' ≡ None
none_stays None None same e = refl
none_stays None (Some b) same e = let p = same.0 in cc
none_stays (Some b) b' same e = cc

pub all_gone : (g1 g2 g3 : Group) → IsReady g1 → SameBlocks g1 g2 → SameBut Daram g2 g3 → g3.daram ≡ None → (space : Space) → block_in g3 space ≡ None
all_gone g1 g2 g3 ready same went gone Daram = gone
all_gone g1 g2 g3 ready same went gone Saram = went.others Saram saram_is_not_daram ∙ none_stays g1.saram g2.saram (same Saram) ready.saram
all_gone g1 g2 g3 ready same went gone External = went.others External external_is_not_daram ∙ none_stays g1.external g2.external (same External) ready.external

-- what came back is what was placed
pub same_block_span : (align : ℕ) (p s : Span) (b1 b2 : Option ScratchBlock) → b1 ≡ Some (record { piece = p; align = align }) → IsSameBlock b1 b2 → block_piece b2 ≡ Some s → IsSamePiece (Some p) (Some s)
same_block_span align p s b1 b2 e1 same e2 =
    subst (λ (x : Option Span). IsSamePiece (Some p) x) e2 (subst (λ (x : Option ScratchBlock). IsSamePiece (block_piece x) (block_piece b2)) e1 same.0)

pub same_piece_span : (p s : Span) (a b : Option Span) → IsSamePiece (Some p) a → IsSamePiece a b → b ≡ Some s → IsSamePiece (Some p) (Some s)
same_piece_span p s a b e f is = subst (λ (x : Option Span). IsSamePiece (Some p) x) is (same_then (Some p) a b e f)

pub all_same : (r : Extent) (p q : Option Span) → IsAllOf r p → IsSamePiece p q → IsAllOf r q
all_same r None q all same = absurd all
all_same r (Some p) None all same = absurd same
all_same r (Some p) (Some q) all same = still_whole p q r all same

-- one call behind another
pub same_instance_then : {M : Type 0} {a b c : Instance M} → SameInstance a b → SameInstance b c → SameInstance a c
same_instance_then {a = a} {b = b} {c = c} e f =
    record { kind = f.kind ∙ e.kind; params = f.params ∙ e.params; table = f.table ∙ e.table; own = same_pieces_then a.own b.own c.own e.own f.own }

-- another member of the group was active meanwhile
pub lent_beside : {M : Type 0} {s : Instance M} {sharing : List Locations} {i : ℕ} {g g' : Group} → CanBeLent s sharing i g → SameBlocks g g' → CanBeLent s sharing i g'
lent_beside {s = s} {sharing} {i} {g} {g'} lent blocks = record {
  number = lent.number;
  owners = lent.owners;
  fits = fits_at s.table s.own s.own (shared_at sharing i) (shared_at sharing i) g g' (same_pieces s.own) (same_pieces (shared_at sharing i)) (λ space. (blocks space).0) lent.fits;
}

-- a call leaves as many locations as there are
pub same_count : {M : Type 0} {s : Instance M} {sharing sharing' : List Locations} {i : ℕ} {g : Group} → CanBeLent s sharing i g → OnlyItsPiecesChange i sharing sharing' → length sharing' ≡ length sharing
same_count {sharing = sharing} {sharing'} {i} lent seen = ap length seen ∙ count_seen sharing i lent.owners (shared_at sharing' i)
