-- The places of a rest and of a piece are disjoint, so the piece's words are away.
use Rattle.std.proofs.Common.{rules, ◌≡◌, length, ap, arith, subst, ◌∙◌}
use Rattle.space_raw.specs.Marks.{Disjoint, range_marks}
use Rattle.space_raw.specs.Slots.{IsAway}
use Rattle.space_raw.proofs.Marks.{held_apart, held}
use Rattle.space_raw.specs.Stores.{slots_of}
use Rattle.space_raw.proofs.rest.Rest.apart.Goals as goal

pub returns-clause-apart : goal.returns-clause-apart
returns-clause-apart c =
    let cs = slots_of c.self.inside.store in let p = c.piece.inside in
    let size : length p.places.marks ≡ length cs = search rules in
    let mine = ap (λ x. x.marks) c.replace-places.ensures.value ∙ c.self.invariant.3 in
    let other = ap (λ x. x.marks) c.replace-others.ensures.value ∙ c.piece.invariant.3 ∙ ap (λ k. range_marks k p.place p.len) size in
    let disjoint : Disjoint (held cs) (range_marks (length cs) p.place p.len) = subst (λ ms. Disjoint ms (range_marks (length cs) p.place p.len)) mine (subst (λ ns. Disjoint c.replace-places.result.marks ns) other c.apart-places.ensures.apart) in
    let away : IsAway cs p.place p.len = held_apart cs p.place p.len (omega (arith, size, c.piece.invariant)) disjoint in
    let at : p.place ≡ c.args.piece.now.place = search rules in
    let long : p.len ≡ length c.args.piece.now.words = search rules in
    subst (λ s. IsAway s.slots c.args.piece.now.place (length c.args.piece.now.words)) c.self.view_is
    (subst (λ k. IsAway cs k (length c.args.piece.now.words)) at (subst (λ k. IsAway cs p.place k) long away))
