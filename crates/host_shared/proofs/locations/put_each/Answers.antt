use Rattle.std.proofs.Common.{◌≡◌, ◌<◌, ◌∙◌, ap, arith, add-one}
use Rattle.record_loans.specs.Pieces.{piece_at}
use Rattle.host_shared.specs.Owners.{with_pieces_of}
use Rattle.host_shared.proofs.Stands.{rest_after, taken_after, all_taken}
use Rattle.host_shared.proofs.Lent.{none_at}
use Rattle.host_shared.proofs.Owners.{with_first, owners_first, seen_first}
use Rattle.host_shared.proofs.locations.put_each.Goals as goal

pub put_record-requires-clause-owner : goal.put_record-requires-clause-owner
put_record-requires-clause-owner c = rw c.loop-k.invariant.put (owners_first _ _ c.requires.owners c.args.pieces c.loop-k.k (omega arith) c.loop-k.k)

pub put_record-requires-clause-none : goal.put_record-requires-clause-none
put_record-requires-clause-none c =
    rw c.loop-k.invariant.put
    (seen_first _ _ c.requires.owners c.args.pieces c.loop-k.k (omega arith) c.loop-k.k (omega arith) ∙ none_at _ _ c.requires.none c.loop-k.k (omega arith))

pub loop-k-preserved : goal.loop-k-preserved
loop-k-preserved c =
    let k = c.loop-k.k in
    let below : k < 4 = omega arith in
    let piece : c.take-piece.result ≡ piece_at c.args.pieces k = c.take-piece.ensures.piece ∙ c.loop-k.invariant.rest k (omega arith) in
    record {
      put = rw add-one (rw (c.loop-k.invariant.put, piece) at c.put_record.ensures);
      rest = rest_after c.loop-k.left c.take-piece.new.self k below c.take-piece.ensures.left c.args.pieces c.loop-k.invariant.rest;
      taken = taken_after c.loop-k.left c.take-piece.new.self k below c.take-piece.ensures.left c.loop-k.invariant.taken;
    }

pub end_absent-requires : goal.end_absent-requires
end_absent-requires c = all_taken c.loop-k.left (λ n below. c.loop-k.invariant.taken n (omega (arith, below)))

pub returns : goal.returns
unfolding with_pieces_of
returns c =
    let all : c.loop-k.k ≡ 4 = omega arith in
    c.loop-k.invariant.put ∙ ap (with_first c.args.sharing.now.items c.args.i c.args.pieces) all
