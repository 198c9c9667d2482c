use Rattle.std.proofs.Common.{refl, sym, ◌∙◌, ap, arith}
use Rattle.record_loans.specs.declared.pieces.Pieces.{Pieces}
use Rattle.host_shared.proofs.Bare.{owner_then, seen_then, two_put}
use Rattle.host_shared.proofs.locations.give_back_pieces.Goals as goal

pub put_record-requires-clause-owner : goal.put_record-requires-clause-owner
put_record-requires-clause-owner c = c.requires.owners 1

pub put_record-requires-clause-none : goal.put_record-requires-clause-none
put_record-requires-clause-none c = ap (λ (o : Pieces). o.p1) c.requires.none

pub put_record-requires-then-has_none_but_two-clause-owner : goal.put_record-requires-then-has_none_but_two-clause-owner
put_record-requires-then-has_none_but_two-clause-owner c = rw c.put_record.ensures (owner_then c.args.sharing.now.items c.args.i c.args.pieces.p1 c.args.pieces.p2 c.requires.owners 2)

pub put_record-requires-then-has_none_but_two-clause-none : goal.put_record-requires-then-has_none_but_two-clause-none
put_record-requires-then-has_none_but_two-clause-none c =
    rw c.put_record.ensures (seen_then c.args.sharing.now.items c.args.i c.args.pieces.p1 c.args.pieces.p2 c.requires.owners 2 (omega arith) ∙ ap (λ (o : Pieces). o.p2) c.requires.none)

pub returns-then-has_none_but_two : goal.returns-then-has_none_but_two
returns-then-has_none_but_two c =
    let none = c.has_none_but_two.ensures in
    let test = c.if-has_none_but_two.true in
    let seen = c.requires.none in
    rw (c.put_record-then-has_none_but_two.ensures, c.put_record.ensures)
    (sym (two_put c.args.sharing.now.items c.args.i c.args.pieces.p1 c.args.pieces.p2 c.requires.owners c.args.pieces (none.p0 test) refl refl (none.p3 test)
    (ap (λ (o : Pieces). o.p0) seen) (ap (λ (o : Pieces). o.p3) seen)))
