use Rattle.std.proofs.Common.{Option, sym, ◌∙◌, ap, subst}
use Rattle.space_raw.specs.Span.{Span}
use Rattle.record_loans.specs.declared.pieces.Pieces.{Pieces}
use Rattle.test_lives.specs.Owners.{IsAllOf}
use Rattle.test_lives.proofs.Housing.{all_same}
use Rattle.test_lives.proofs.neighbour_tests.end_filter.Goals as goal

pub close_both-requires-clause-one : goal.close_both-requires-clause-one
close_both-requires-clause-one g c =
    subst (λ (p : Option Span). IsAllOf c.args.external p) (sym (ap (λ (ps : Pieces). ps.p0) c.finish.ensures) ∙ c.both-object.ensures.object)
    (all_same c.args.external c.args.member.instance.own.p0 c.freed-told.new.self.instance.own.p0 c.requires.object c.freed-told.ensures.did.same.own.p0)

pub close_both-requires-clause-other : goal.close_both-requires-clause-other
close_both-requires-clause-other g c =
    subst (λ (p : Option Span). IsAllOf c.args.saram p) (sym (ap (λ (ps : Pieces). ps.p1) c.finish.ensures) ∙ c.both-object.ensures.kept)
    (all_same c.args.saram c.args.member.instance.own.p1 c.freed-told.new.self.instance.own.p1 c.requires.kept c.freed-told.ensures.did.same.own.p1)
