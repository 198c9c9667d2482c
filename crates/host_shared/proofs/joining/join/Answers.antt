use Rattle.std.proofs.Common.{◌≡◌, ◌<◌, inl, inr, ◌∙◌, ap, arith}
use Rattle.std.proofs.lemmas.Bool.Decides.{eqb_tells}
use Rattle.record_loans.specs.Pieces.{piece_at}
use Rattle.host_shared.specs.Locations.{location_at}
use Rattle.host_shared.specs.Joining.{sharer_at}
use Rattle.host_shared.proofs.Stands.{rest_after, taken_after, all_taken}
use Rattle.host_shared.proofs.Lent.{no_location}
use Rattle.host_shared.proofs.Joined.{pieces_all, others_all, owners_all, least_all}
use Rattle.host_shared.proofs.Joinings.{can_column, joined_column, all_joined}
use Rattle.host_shared.proofs.joining.join.Goals as goal

pub join_record-requires-clause-none : goal.join_record-requires-clause-none
join_record-requires-clause-none c =
    let k = c.loop-k.k in
    c.loop-k.invariant.waits c.args.i k (omega arith) ∙ ap (λ s. location_at s k) c.requires.bare ∙ no_location k

pub join_record-requires-clause-sharer : goal.join_record-requires-clause-sharer
join_record-requires-clause-sharer c =
    let k = c.loop-k.k in
    let piece : c.take-piece.result ≡ piece_at c.args.placed k = c.take-piece.ensures.piece ∙ c.loop-k.invariant.rest k (omega arith) in
    rw (c.sharer.ensures, piece)
    (can_column c.args.sharing.now.items c.loop-k.sharing.items k (sharer_at c.args.sharers k) (piece_at c.args.placed k) (λ j. c.loop-k.invariant.waits j k (omega arith)) (c.requires.sharers k))

pub loop-k-preserved : goal.loop-k-preserved
loop-k-preserved c =
    let k = c.loop-k.k in
    let below : k < 4 = omega arith in
    let piece : c.take-piece.result ≡ piece_at c.args.placed k = c.take-piece.ensures.piece ∙ c.loop-k.invariant.rest k (omega arith) in
    record {
      count = c.join_record.ensures.count;
      joined = λ j n less.
          elim (eqb_tells n k) [
            | inl e ↦
                rw e.1
                ((rw (c.sharer.ensures, piece) at (c.join_record.ensures.joined j))
                ∙ joined_column c.loop-k.sharing.items c.args.sharing.now.items c.args.i k (sharer_at c.args.sharers k) (piece_at c.args.placed k) j (λ l. c.loop-k.invariant.waits l k (omega arith)))
            | inr e ↦ c.join_record.ensures.beside j n e.1 ∙ c.loop-k.invariant.joined j n (omega (arith, less, e.1))
          ];
      waits = λ j n behind. c.join_record.ensures.beside j n (omega (arith, behind)) ∙ c.loop-k.invariant.waits j n (omega (arith, behind));
      rest = rest_after c.loop-k.left c.take-piece.new.self k below c.take-piece.ensures.left c.args.placed c.loop-k.invariant.rest;
      taken = taken_after c.loop-k.left c.take-piece.new.self k below c.take-piece.ensures.left c.loop-k.invariant.taken;
    }

pub end_absent-requires : goal.end_absent-requires
end_absent-requires c = all_taken c.loop-k.left (λ n below. c.loop-k.invariant.taken n (omega (arith, below)))

pub returns : goal.returns
returns c =
    let a = c.args.sharing.now.items in
    let f = c.loop-k.sharing.items in
    let sharers = c.args.sharers in
    let placed = c.args.placed in
    let joined = all_joined c.args.i sharers placed a f (λ j k below. c.loop-k.invariant.joined j k (omega (arith, below))) in
    record {
      count = c.loop-k.invariant.count;
      joined = joined;
      pieces = pieces_all a f c.args.i sharers placed c.requires.owners c.requires.bare c.requires.sharers joined;
      others = others_all a f c.args.i sharers placed c.requires.owners c.requires.bare c.requires.sharers joined;
      owners = owners_all a f c.args.i sharers placed c.requires.owners c.requires.bare c.requires.sharers joined;
      least = least_all a f c.args.i sharers placed c.requires.owners c.requires.bare c.requires.sharers joined;
    }
