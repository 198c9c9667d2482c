-- The places of two pieces are disjoint, so their ranges are.
use Rattle.std.proofs.Common.{rules, ◌≡◌, length, ◌∙◌, ap}
use Rattle.space_raw.specs.Marks.{range_marks}
use Rattle.space_raw.proofs.Marks.{pieces_apart}
use Rattle.space_raw.proofs.piece.Piece.apart.Goals as goal

pub returns-clause-apart : goal.returns-clause-apart
returns-clause-apart c =
    let s = c.self.inside in let t = c.other.inside in let size = length s.places.marks in
    let same : length t.places.marks ≡ size = search rules in
    pieces_apart c.args.self.now c.args.other.now c.replace-places.result.marks c.replace-others.result.marks size s.place s.len t.place t.len
    (search rules) (search rules) (search rules) (search rules)
    (ap (λ x. x.marks) c.replace-places.ensures.value ∙ c.self.invariant.3)
    (ap (λ x. x.marks) c.replace-others.ensures.value ∙ c.other.invariant.3 ∙ ap (λ k. range_marks k t.place t.len) same)
    (search rules) (search rules) c.apart-places.ensures.apart
