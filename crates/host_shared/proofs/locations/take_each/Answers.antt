use Rattle.std.proofs.Common.{◌∙◌, arith}
use Rattle.host_shared.specs.Owners.{with_pieces_of}
use Rattle.record_loans.specs.Pieces.{no_pieces}
use Rattle.host_shared.specs.Locations.{shared_at}
use Rattle.host_shared.proofs.Stands.{four_pieces}
use Rattle.host_shared.proofs.Owners.{owners1, owners2, owners3, owners_lent, count_seen, seen1, seen2, seen3, lent_here}
use Rattle.host_shared.proofs.locations.take_each.Goals as goal

pub take_record-p0-requires-clause-owner : goal.take_record-p0-requires-clause-owner
take_record-p0-requires-clause-owner c = c.requires.owners 0

pub take_record-p1-requires-clause-owner : goal.take_record-p1-requires-clause-owner
take_record-p1-requires-clause-owner c =
    rw c.take_record-p0.ensures.left (owners1 _ _ c.requires.owners no_pieces 1)

pub take_record-p2-requires-clause-owner : goal.take_record-p2-requires-clause-owner
take_record-p2-requires-clause-owner c =
    rw (c.take_record-p1.ensures.left, c.take_record-p0.ensures.left) (owners2 _ _ c.requires.owners no_pieces 2)

pub take_record-p3-requires-clause-owner : goal.take_record-p3-requires-clause-owner
take_record-p3-requires-clause-owner c =
    rw (c.take_record-p2.ensures.left, c.take_record-p1.ensures.left, c.take_record-p0.ensures.left) (owners3 _ _ c.requires.owners no_pieces 3)

pub returns-clause-pieces : goal.returns-clause-pieces
returns-clause-pieces c =
    four_pieces _ (shared_at c.args.sharing.now.items c.args.i)
    c.take_record-p0.ensures.piece
    (c.take_record-p1.ensures.piece ∙ rw c.take_record-p0.ensures.left (seen1 _ _ c.requires.owners no_pieces 1 (omega arith)))
    (c.take_record-p2.ensures.piece ∙ rw (c.take_record-p1.ensures.left, c.take_record-p0.ensures.left) (seen2 _ _ c.requires.owners no_pieces 2 (omega arith) (omega arith)))
    (c.take_record-p3.ensures.piece
    ∙ rw (c.take_record-p2.ensures.left, c.take_record-p1.ensures.left, c.take_record-p0.ensures.left) (seen3 _ _ c.requires.owners no_pieces 3 (omega arith) (omega arith) (omega arith)))

pub returns-clause-left : goal.returns-clause-left
unfolding with_pieces_of
returns-clause-left c =
    rw (c.take_record-p3.ensures.left, c.take_record-p2.ensures.left, c.take_record-p1.ensures.left, c.take_record-p0.ensures.left)

pub returns-clause-length : goal.returns-clause-length
returns-clause-length c = rw (returns-clause-left c) (count_seen _ _ c.requires.owners no_pieces)

pub returns-clause-owners : goal.returns-clause-owners
returns-clause-owners c k =
    rw (returns-clause-left c) (owners_lent _ _ c.requires.owners no_pieces k)

pub returns-clause-none : goal.returns-clause-none
returns-clause-none c =
    rw (returns-clause-left c) (lent_here _ _ c.requires.owners no_pieces)
