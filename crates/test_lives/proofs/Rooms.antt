-- A slicer has room in pieces and blocks of its sizes, and these come back as they were.
use Rattle.std.proofs.Common.{◌≡◌, ℕ, zero, suc, ◌+◌, ◌<◌, ◌≤◌, inl, inr, List, length, Option, Some, None, refl, ap, sym, ◌∙◌, subst, arith, true}
use Rattle.std.proofs.lemmas.Bool.Decides.{nat_tests}
use Rattle.std.specs.Prelude.{ℤ, ◌==◌, if◌then◌else◌, MatchOption}
use Rattle.space_raw.specs.Span.{Span, Extent}
use Rattle.mem_rec.specs.declared.TheConstants.{RECORD_WORDS}
use Rattle.mem_rec.specs.declared.MemRec.{MemRec}
use Rattle.mem_rec.specs.declared.Space.{Space}
use Rattle.mem_rec.specs.declared.Space.TheVariants.{Daram, Saram, External}
use Rattle.ialg.specs.Records.{record_at, unplaced}
use Rattle.record_loans.specs.declared.block.ScratchBlock.{ScratchBlock}
use Rattle.record_loans.specs.declared.pieces.Pieces.{Pieces}
use Rattle.record_loans.specs.Blocks.{block_piece}
use Rattle.record_loans.specs.Pieces.{piece_at, IsInSpace}
use Rattle.scratch_group.specs.declared.group.Group.{Group}
use Rattle.scratch_group.specs.Blocks.{block_in, SameBut, SameGroup}
use Rattle.scratch_group.specs.Words.{placed, HasPieces}
use Rattle.lifecycle.specs.Rooms.{NoNeed, AreSeparate, piece_of_record}
use Rattle.lifecycle.specs.States.{Fits}
use Rattle.lifecycle.proofs.Frames.{fits_by_places}
use Rattle.lifecycle.proofs.Places.{there_is_room}
use Rattle.test_lives.specs.Blocks.{SameBlocks}
use Rattle.test_lives.specs.Owners.{IsPieceThere}
use Rattle.test_lives.proofs.Housing.{block_serves, first, none_stays, saram_is_not_daram, external_is_not_daram}
use Rattle.test_doubles.specs.Slicer.{slicer_records}

daram_is_not_saram : Daram ≡ Saram → ⊥
daram_is_not_saram h = cc

external_is_not_saram : External ≡ Saram → ⊥
external_is_not_saram h = cc

-- the records that were granted
pub records_granted : (p : List ℤ) (r : List MemRec) → length p ≡ 2 → Some r ≡ (if length p == 2 then Some slicer_records else None) → unplaced r ≡ slicer_records
records_granted p r two e =
    let test : (length p == 2) ≡ true = grind (arith, nat_tests) in
    let same : Some r ≡ Some slicer_records = rw test at e in
    let is : r ≡ slicer_records = cc in
    ap unplaced is

module _ (o l : Span) (low high : ScratchBlock) (active : Option ℕ) (activations : ℕ) (ho : IsPieceThere 4 o) (hl : IsPieceThere 2 l) (behind : o.place + 4 ≤ l.place)
    (hlow : IsPieceThere 8 low.piece) (fine_low : low.align ≡ 4) (hhigh : IsPieceThere 4 high.piece) (fine_high : high.align ≡ 64) where
  abbrev own : Pieces
  own = record { p0 = Some o; p1 = None; p2 = None; p3 = None }

  abbrev shared : Pieces
  shared = record { p0 = None; p1 = Some l; p2 = None; p3 = None }

  abbrev g : Group
  g = record { daram = Some low; saram = Some high; external = None; active = active; activations = activations }

  need : NoNeed slicer_records g
  need Daram = block_serves low 8 4 (omega (arith, hlow.words)) (omega (arith, fine_low))
  need Saram = block_serves high 4 64 (omega (arith, hhigh.words)) (omega (arith, fine_high))
  need External = refl

  has : HasPieces slicer_records own shared
  has zero = first 4 o.words (omega (arith, ho.words))
  has (suc zero) = first 2 l.words (omega (arith, hl.words))
  has (suc (suc zero)) = refl
  has (suc (suc (suc zero))) = refl
  has (suc (suc (suc (suc k)))) = refl

  pieces_apart : (j k : ℕ) → j < k → k < 4 → (record_at slicer_records j).space ≡ (record_at slicer_records k).space
      → AreSeparate (piece_of_record slicer_records own shared j) (piece_of_record slicer_records own shared k)
  pieces_apart zero zero h t e = absurd (omega (arith, h))
  pieces_apart zero (suc zero) h t e = inr (inr (inl (omega (arith, behind, ho.words))))
  pieces_apart zero (suc (suc zero)) h t e = cc
  pieces_apart zero (suc (suc (suc zero))) h t e = cc
  pieces_apart zero (suc (suc (suc (suc k)))) h t e = absurd (omega (arith, t))
  pieces_apart (suc zero) zero h t e = absurd (omega (arith, h))
  pieces_apart (suc zero) (suc zero) h t e = absurd (omega (arith, h))
  pieces_apart (suc zero) (suc (suc zero)) h t e = cc
  pieces_apart (suc zero) (suc (suc (suc zero))) h t e = cc
  pieces_apart (suc zero) (suc (suc (suc (suc k)))) h t e = absurd (omega (arith, t))
  pieces_apart (suc (suc zero)) zero h t e = absurd (omega (arith, h))
  pieces_apart (suc (suc zero)) (suc zero) h t e = absurd (omega (arith, h))
  pieces_apart (suc (suc zero)) (suc (suc zero)) h t e = absurd (omega (arith, h))
  pieces_apart (suc (suc zero)) (suc (suc (suc zero))) h t e = cc
  pieces_apart (suc (suc zero)) (suc (suc (suc (suc k)))) h t e = absurd (omega (arith, t))
  pieces_apart (suc (suc (suc j))) k h t e = absurd (omega (arith, h, t))

  block_apart : (k : ℕ) → k < 4 → AreSeparate (piece_of_record slicer_records own shared k) (block_piece (block_in g (record_at slicer_records k).space))
  block_apart zero t = tt
  block_apart (suc zero) t = tt
  block_apart (suc (suc zero)) t = tt
  block_apart (suc (suc (suc zero))) t = tt
  block_apart (suc (suc (suc (suc k)))) t = absurd (omega (arith, t))

  own_in : (k : ℕ) → IsInSpace (piece_at own k)
  own_in zero = ho.region
  own_in (suc zero) = tt
  own_in (suc (suc zero)) = tt
  own_in (suc (suc (suc zero))) = tt
  own_in (suc (suc (suc (suc k)))) = tt

  shared_in : (k : ℕ) → IsInSpace (piece_at shared k)
  shared_in zero = tt
  shared_in (suc zero) = hl.region
  shared_in (suc (suc zero)) = tt
  shared_in (suc (suc (suc zero))) = tt
  shared_in (suc (suc (suc (suc k)))) = tt

  block_in_space : (space : Space) → IsInSpace (block_piece (block_in g space))
  block_in_space Daram = hlow.region
  block_in_space Saram = hhigh.region
  block_in_space External = tt

  there_fits : Fits (placed slicer_records own shared g) own shared g
  there_fits = there_is_room slicer_records own shared g refl need has (record { pieces = pieces_apart; block = block_apart })
      (record { own_space = own_in; shared_space = shared_in; block_space = block_in_space })

-- a block of so many words at such an alignment
abbrev IsBlock : ℕ → ℕ → Option ScratchBlock → Type 0
IsBlock n align b = MatchOption b ⊥ (λ x. IsPieceThere n x.piece × (x.align ≡ align))

any_group : (o l : Span) (d s e : Option ScratchBlock) (active : Option ℕ) (activations : ℕ) → IsPieceThere 4 o → IsPieceThere 2 l → o.place + 4 ≤ l.place
    → IsBlock 8 4 d → IsBlock 4 64 s → e ≡ None
    → Fits (placed slicer_records (record { p0 = Some o; p1 = None; p2 = None; p3 = None }) (record { p0 = None; p1 = Some l; p2 = None; p3 = None }) (record { daram = d; saram = s; external = e; active = active; activations = activations }))
    (record { p0 = Some o; p1 = None; p2 = None; p3 = None }) (record { p0 = None; p1 = Some l; p2 = None; p3 = None }) (record { daram = d; saram = s; external = e; active = active; activations = activations })
any_group o l None s e active activations ho hl behind hd hs he = absurd hd
any_group o l (Some d) None e active activations ho hl behind hd hs he = absurd hs
any_group o l (Some d) (Some s) (Some b) active activations ho hl behind hd hs he = cc
any_group o l (Some d) (Some s) None active activations ho hl behind hd hs he = there_fits o l d s active activations ho hl behind hd.0 hd.1 hs.0 hs.1

is_block : (n align : ℕ) (b : Option ScratchBlock) (p : Span) → b ≡ Some (record { piece = p; align = align }) → IsPieceThere n p → IsBlock n align b
is_block n align b p e h = subst (λ (x : Option ScratchBlock). IsBlock n align x) (sym e) (h, refl)

-- both blocks were placed
pub placed_daram : (g1 g2 : Group) (b : Option ScratchBlock) → g1.daram ≡ b → SameBut Saram g1 g2 → g2.daram ≡ b
placed_daram g1 g2 b e same = same.others Daram daram_is_not_saram ∙ e

pub no_external : (g0 g1 g2 : Group) → ((space : Space) → block_in g0 space ≡ None) → SameBut Daram g0 g1 → SameBut Saram g1 g2 → g2.external ≡ None
no_external g0 g1 g2 none first second = second.others External external_is_not_saram ∙ first.others External external_is_not_daram ∙ none External

pub slicer_fits : (rs : List MemRec) (o l low high : Span) (g0 g1 g2 : Group) → unplaced rs ≡ slicer_records → IsPieceThere 4 o → IsPieceThere 2 l → o.place + 4 ≤ l.place
    → ((space : Space) → block_in g0 space ≡ None) → g1.daram ≡ Some (record { piece = low; align = 4 }) → SameBut Daram g0 g1
    → g2.saram ≡ Some (record { piece = high; align = 64 }) → SameBut Saram g1 g2 → IsPieceThere 8 low → IsPieceThere 4 high
    → Fits (placed rs (record { p0 = Some o; p1 = None; p2 = None; p3 = None }) (record { p0 = None; p1 = Some l; p2 = None; p3 = None }) g2)
    (record { p0 = Some o; p1 = None; p2 = None; p3 = None }) (record { p0 = None; p1 = Some l; p2 = None; p3 = None }) g2
slicer_fits rs o l low high g0 g1 g2 table ho hl behind none ed first_same es second_same hlow hhigh =
    fits_by_places slicer_records rs (record { p0 = Some o; p1 = None; p2 = None; p3 = None }) (record { p0 = None; p1 = Some l; p2 = None; p3 = None }) g2 table
    (any_group o l g2.daram g2.saram g2.external g2.active g2.activations ho hl behind (is_block 8 4 g2.daram low (placed_daram g1 g2 _ ed second_same) hlow)
    (is_block 4 64 g2.saram high es hhigh) (no_external g0 g1 g2 none first_same second_same))

-- both blocks were taken out
pub all_gone : (g2 g3 g4 g5 : Group) → g2.external ≡ None → SameBlocks g2 g3 → SameBut Daram g3 g4 → g4.daram ≡ None → SameBut Saram g4 g5 → g5.saram ≡ None
    → (space : Space) → block_in g5 space ≡ None
all_gone g2 g3 g4 g5 none same first gone second gone_too Daram = second.others Daram daram_is_not_saram ∙ gone
all_gone g2 g3 g4 g5 none same first gone second gone_too Saram = gone_too
all_gone g2 g3 g4 g5 none same first gone second gone_too External =
    second.others External external_is_not_saram ∙ first.others External external_is_not_daram ∙ none_stays g2.external g3.external (same External) none

pub piece_left : (g3 g4 : Group) → SameBut Daram g3 g4 → block_piece g4.saram ≡ block_piece g3.saram
piece_left g3 g4 same = ap block_piece (same.others Saram saram_is_not_daram)

-- a piece of a region of that size
pub owner_part : (n size : ℕ) (r : Extent) (s : Span) → r.size ≡ size → size ≤ RECORD_WORDS → s.region ≡ r → length s.words ≡ n → IsPieceThere n s
owner_part n size r s e few same words = record { words = words; region = rw (same, e) few }
