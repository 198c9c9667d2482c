-- Both parts have the places of their words.
use Rattle.std.proofs.Common.{rules, length, length-drop, ap, arith}
use Rattle.space_raw.proofs.Marks.{front_places, back_places}
use Rattle.space_raw.proofs.piece.Piece.split.Goals as goal

pub invariant_of-front : goal.invariant_of-front
invariant_of-front c =
    let s = c.self.inside in let places = c.part-inner.result.0.marks in
    (search rules, search rules, search rules, front_places s.places.marks places s.place c.args.n s.len (search rules) c.self.invariant.3 c.part-inner.ensures.inner.1, search rules, search rules)

pub invariant_of-back : goal.invariant_of-back
invariant_of-back c =
    let s = c.self.inside in let places = c.part-inner.result.1.marks in let behind = length-drop c.args.n s.words.items in let long = ap length c.split-left.ensures.right.2 in (
      search rules,
      search rules,
      omega (arith, behind, long, c.self.invariant),
      back_places s.places.marks places s.place c.args.n s.len (search rules) c.self.invariant.3 c.part-inner.ensures.outer.1,
      search rules,
      search rules,
    )
