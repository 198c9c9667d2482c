-- The joined piece has the places of both.
use Rattle.std.proofs.Common.{rules, length, length-append, ap, arith}
use Rattle.space_raw.proofs.Marks.{joined_places}
use Rattle.space_raw.proofs.piece.Piece.join.Goals as goal

pub invariant_of-result : goal.invariant_of-result
invariant_of-result c =
    let s = c.self.inside in let t = c.next.inside in let both = length-append s.words.items t.words.items in let long = ap length c.join.ensures.words.2 in (
      search rules,
      search rules,
      omega (arith, both, long, c.self.invariant, c.next.invariant),
      joined_places s.places.marks t.places.marks c.unite.result.marks s.place s.len t.place t.len (search rules) (search rules) c.self.invariant.3 c.next.invariant.3 c.unite.ensures.both.1,
      search rules,
      search rules,
    )
