-- The hole that ends at the piece's place is the free range before it; without one that range is empty.
use Rattle.std.proofs.Common.{◌≡◌, ℕ, ◌+◌, ◌-◌, ◌%◌, ◌<◌, ◌≤◌, List, length, Option, sym, subst, ap, ◌∙◌, arith, MatchOption}
use Rattle.std.specs.Prelude.{ℤ}
use Rattle.std.specs.Int.{next_multiple_of}
use Rattle.space_raw.specs.Span.{Scattered, Span}
use Rattle.space_heap.specs.declared.find.Found.{Found}
use Rattle.space_heap.specs.declared.find.Fit.{Fit}
use Rattle.space_heap.specs.Holes.{HasHoles, IsFit, IsFound, IsFreeFrom, IsFromOn, hole_end, in_rest}
use Rattle.space_heap.proofs.Ends.{found_chains, free_before, taken_before, taken_before_all}
use Rattle.relocate.proofs.Multiples.{not_lower}
use Rattle.space_heap.proofs.Finds.{unit_multiple}
use Rattle.space_heap.proofs.Words.{away_within}
use Rattle.space_heap.proofs.holes.gap_before.Goals.{else-end-start-via-then-end-start+else-place-start, else-end-start-via-else-end-start}
use Rattle.space_heap.proofs.holes.gap_before.Goals as goal

pub returns-in_err-found-clause-place : goal.returns-in_err-found-clause-place
returns-in_err-found-clause-place c =
    let slots = c.args.rest.now.slots in let place = c.args.piece.now.place in
    let at : c.place-start.result ≡ place = c.place-start.ensures.value ∙ ap (λ (s : Span). s.place) c.apart.ensures.same.1 in
    let late = subst (λ p. IsFromOn p c.args.first) at c.in_err-found.ensures.none in let inside = c.requires.block.inside in
    subst (λ (o : Option Fit). (start : ℕ) × IsFreeFrom (in_rest slots) place start × MatchOption o (place ≤ next_multiple_of start c.args.align) (λ f. f.place ≡ next_multiple_of start c.args.align))
    (sym c.from_residual.ensures)
    (place, taken_before_all slots c.args.first c.requires.holes place late (omega arith), not_lower place c.args.align)

-- what is known where a hole begins before the piece
module _ (slots : List (Option ℤ)) (first : Option ℕ) (f : Found) (piece : Span) (rest : Scattered) (found : IsFound rest.slots first f)
    (same : rest.slots ≡ slots) (inside : piece.place + length piece.words ≤ length slots) where
  its : IsFound slots first f
  its = subst (λ (ws : List (Option ℤ)). IsFound ws first f) same found

  end_small : hole_end f.hole < 4294967296
  end_small = let end = (found_chains slots first f its).1.inside in let most = its.holes.size.0 in omega arith

  lowered : (to align : ℕ) → hole_end f.hole ≡ piece.place → f.hole.place ≤ to → to < piece.place → to % align ≡ 0 → align % 4 ≡ 0
      → (to < piece.place) × (hole_end f.hole ≡ piece.place) × IsFit slots first (piece.place - to) (record { found = f; place = to })
  lowered to align e low lt multiple unit = (lt, e, record { found = its; low = low; high = omega arith; unit = unit_multiple to align multiple unit })

pub end-requires : goal.end-requires
end-requires c =
    end_small c.args.rest.now.slots c.args.first c.in_ok-found.found c.args.piece.now c.apart.new.self c.in_ok-found.ensures.found.0
    (ap (λ (r : Scattered). r.slots) c.apart.ensures.same.0) c.requires.block.inside

pub returns-then-place-start-clause-found : goal.returns-then-place-start-clause-found
returns-then-place-start-clause-found c =
    let here = ap (λ (s : Span). s.place) c.apart.ensures.same.1 in let told = c.next_multiple_of-place.ensures in
    let end = c.end.ensures in let at = c.place-start.ensures.value in let test = c.if-end-start.true in let less = c.if-place-start.true in
    lowered c.args.rest.now.slots c.args.first c.in_ok-found.found c.args.piece.now c.apart.new.self c.in_ok-found.ensures.found.0
    (ap (λ (r : Scattered). r.slots) c.apart.ensures.same.0) c.requires.block.inside c.next_multiple_of-place.result c.args.align
    (omega arith) told.lower_bound (omega arith) told.multiple c.requires.align.2

pub returns-then-place-start-clause-place : goal.returns-then-place-start-clause-place
returns-then-place-start-clause-place c =
    let here = ap (λ (s : Span). s.place) c.apart.ensures.same.1 in let slots = c.args.rest.now.slots in let f = c.in_ok-found.found in
    let end = c.end.ensures in let at = c.place-start.ensures.value in let test = c.if-end-start.true in
    let found = its slots c.args.first f c.args.piece.now c.apart.new.self c.in_ok-found.ensures.found.0 (ap (λ (r : Scattered). r.slots) c.apart.ensures.same.0) c.requires.block.inside in
    (f.hole.place, free_before slots c.args.first f found c.args.piece.now.place (omega arith), c.next_multiple_of-place.ensures.value)

pub returns-else-end-start-clause-place : goal.returns-else-end-start-clause-place
returns-else-end-start-clause-place c =
    let here = ap (λ (s : Span). s.place) c.apart.ensures.same.1 in let slots = c.args.rest.now.slots in let f = c.in_ok-found.found in let place = c.args.piece.now.place in
    let end = c.end.ensures in let at = c.place-start.ensures.value in let told = c.next_multiple_of-place.ensures.value in
    let known = c.in_ok-found.ensures.found in let early = known.1 in let block = c.requires.block in let inside = block.inside in let some = block.some in
    let found = its slots c.args.first f c.args.piece.now c.apart.new.self known.0 (ap (λ (r : Scattered). r.slots) c.apart.ensures.same.0) inside in
    elim c.else-end-start.branch [
      | else-end-start-via-then-end-start+else-place-start w ↦
          let test = w.if-end-start.true in let not_less = w.if-place-start.false in
          (f.hole.place, free_before slots c.args.first f found place (omega arith), omega arith)
      | else-end-start-via-else-end-start w ↦
          let test = w.if-end-start.false in
          let late = subst (λ p. IsFromOn p f.hole.next) {y = place} (omega arith) known.2 in
          let away = away_within slots place (length c.args.piece.now.words) c.apart.ensures.apart place (omega arith) (omega arith) in
          (place, taken_before slots c.args.first f found place (omega arith) (omega arith) away (λ e. test (omega arith)) late, not_lower place c.args.align)
    ]

pub returns-in_err-found-clause-same : goal.returns-in_err-found-clause-same
returns-in_err-found-clause-same c = c.apart.ensures.same

pub returns-in_err-found-clause-taken : goal.returns-in_err-found-clause-taken
returns-in_err-found-clause-taken c = away_within c.args.rest.now.slots c.args.piece.now.place (length c.args.piece.now.words) c.apart.ensures.apart

pub returns-then-place-start-clause-same : goal.returns-then-place-start-clause-same
returns-then-place-start-clause-same c = c.apart.ensures.same

pub returns-then-place-start-clause-taken : goal.returns-then-place-start-clause-taken
returns-then-place-start-clause-taken c = away_within c.args.rest.now.slots c.args.piece.now.place (length c.args.piece.now.words) c.apart.ensures.apart

pub returns-else-end-start-clause-same : goal.returns-else-end-start-clause-same
returns-else-end-start-clause-same c = c.apart.ensures.same

pub returns-else-end-start-clause-taken : goal.returns-else-end-start-clause-taken
returns-else-end-start-clause-taken c = away_within c.args.rest.now.slots c.args.piece.now.place (length c.args.piece.now.words) c.apart.ensures.apart

pub last_before-requires : goal.last_before-requires
last_before-requires c = record { holes = subst (λ (r : Scattered). HasHoles r.slots c.args.first) (sym c.apart.ensures.same.0) c.requires.holes }
