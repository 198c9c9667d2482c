use Rattle.std.proofs.Common.{◌≡◌, None, refl, sym, ◌∙◌, ap, arith}
use Rattle.host_shared.specs.declared.locations.Locations.{Locations}
use Rattle.record_loans.specs.Pieces.{no_pieces}
use Rattle.host_shared.specs.Locations.{locations_at, shared_at}
use Rattle.host_shared.proofs.Stands.{four_pieces}
use Rattle.host_shared.proofs.Bare.{read_locations, nothing_seen, owner_then, seen_then, two_put}
use Rattle.host_shared.proofs.Owners.{owners_lent, lent_here}
use Rattle.host_shared.proofs.locations.borrow_pieces.Goals as goal

pub take_record-requires-clause-owner : goal.take_record-requires-clause-owner
take_record-requires-clause-owner c = c.requires.owners 1

pub take_record-requires-then-is_bare_but_two-clause-owner : goal.take_record-requires-then-is_bare_but_two-clause-owner
take_record-requires-then-is_bare_but_two-clause-owner c = rw c.take_record.ensures.left (owner_then c.args.sharing.now.items c.args.i None None c.requires.owners 2)

pub returns-then-is_bare_but_two-clause-pieces : goal.returns-then-is_bare_but_two-clause-pieces
returns-then-is_bare_but_two-clause-pieces c =
    let sharing = c.args.sharing.now.items in
    let i = c.args.i in
    let is : locations_at sharing i ≡ c.index.result.now = read_locations sharing i c.index.result.now c.requires.number c.index.ensures in
    let bare = c.is_bare_but_two.ensures in
    let test = c.if-is_bare_but_two.true in
    four_pieces _ (shared_at sharing i)
    (sym (nothing_seen sharing i 0 (ap (λ (s : Locations). s.s0) is ∙ bare.s0 test)))
    c.take_record.ensures.piece
    (c.take_record-then-is_bare_but_two.ensures.piece ∙ rw c.take_record.ensures.left (seen_then sharing i None None c.requires.owners 2 (omega arith)))
    (sym (nothing_seen sharing i 3 (ap (λ (s : Locations). s.s3) is ∙ bare.s3 test)))

pub returns-then-is_bare_but_two-clause-left : goal.returns-then-is_bare_but_two-clause-left
returns-then-is_bare_but_two-clause-left c =
    let sharing = c.args.sharing.now.items in
    let i = c.args.i in
    let is : locations_at sharing i ≡ c.index.result.now = read_locations sharing i c.index.result.now c.requires.number c.index.ensures in
    let bare = c.is_bare_but_two.ensures in
    let test = c.if-is_bare_but_two.true in
    rw (c.take_record-then-is_bare_but_two.ensures.left, c.take_record.ensures.left)
    (sym (two_put sharing i None None c.requires.owners no_pieces refl refl refl refl
    (nothing_seen sharing i 0 (ap (λ (s : Locations). s.s0) is ∙ bare.s0 test))
    (nothing_seen sharing i 3 (ap (λ (s : Locations). s.s3) is ∙ bare.s3 test))))

pub returns-then-is_bare_but_two-clause-owners : goal.returns-then-is_bare_but_two-clause-owners
returns-then-is_bare_but_two-clause-owners c k = rw (returns-then-is_bare_but_two-clause-left c) (owners_lent _ _ c.requires.owners no_pieces k)

pub returns-then-is_bare_but_two-clause-none : goal.returns-then-is_bare_but_two-clause-none
returns-then-is_bare_but_two-clause-none c = rw (returns-then-is_bare_but_two-clause-left c) (lent_here _ _ c.requires.owners no_pieces)
