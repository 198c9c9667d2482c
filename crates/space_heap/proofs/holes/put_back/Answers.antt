-- The piece isn't free: it was compared with the rest.
use Rattle.std.proofs.Common.{◌≡◌, ◌%◌, ◌<◌, length, false, subst, sym, ap, ◌∙◌, arith}
use Rattle.space_raw.specs.Slots.{IsAway}
use Rattle.space_raw.specs.Span.{Scattered, Span}
use Rattle.space_heap.specs.Maps.{IsBlock, range_of}
use Rattle.space_heap.specs.Holes.{IsTaken, in_rest}
use Rattle.space_heap.proofs.Words.{away_within}
use Rattle.space_heap.proofs.holes.put_back.Goals as goal

-- the same before and after they were compared
module _ (rest rest' : Scattered) (piece piece' : Span) (kept : rest' ≡ rest) (stays : piece' ≡ piece) (gone : IsAway rest.slots piece.place (length piece.words)) where
  taken : IsTaken rest'.slots (range_of piece')
  taken =
      subst (λ (r : Scattered). IsTaken r.slots (range_of piece')) (sym kept)
      (subst (λ (p : Span). IsTaken rest.slots (range_of p)) (sym stays) (away_within rest.slots piece.place (length piece.words) gone))

  at_taken : IsBlock (length rest.slots) (range_of piece) → (piece'.place % 4 ≡ 0) × (piece'.place < length rest'.slots) × (in_rest rest'.slots piece'.place ≡ false)
  at_taken block =
      let at = ap (λ (p : Span). p.place) stays in let long = ap (λ (p : Span). length p.words) stays in let size = ap (λ (r : Scattered). length r.slots) kept in
      let unit = block.place in let some = block.some in let inside = block.inside in
      (omega arith, omega arith, taken piece'.place (omega arith) (omega arith))

pub join_front-front-requires-clause-block : goal.join_front-front-requires-clause-block
join_front-front-requires-clause-block c =
    let same = c.place.ensures.value in let told = c.apart.ensures in
    let known = at_taken c.args.rest.now c.apart.new.self c.args.piece c.apart.new.piece told.same.0 told.same.1 told.apart c.requires.block in
    (ap (λ p. p % 4) same ∙ known.0, omega arith, ap (in_rest c.apart.new.self.slots) same ∙ known.2)

pub put_behind-requires-clause-taken : goal.put_behind-requires-clause-taken
put_behind-requires-clause-taken c = let told = c.apart.ensures in taken c.args.rest.now c.apart.new.self c.args.piece c.apart.new.piece told.same.0 told.same.1 told.apart
