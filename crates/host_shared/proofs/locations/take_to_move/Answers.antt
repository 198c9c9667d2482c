use Rattle.std.proofs.Common.{ℕ, None, sym, ◌∙◌, ap}
use Rattle.record_loans.specs.Pieces.{with_piece}
use Rattle.host_shared.specs.declared.locations.Location.TheVariants.{Here}
use Rattle.host_shared.specs.Locations.{shared_at}
use Rattle.host_shared.specs.Owners.{set_location}
use Rattle.host_shared.proofs.Bare.{over_put}
use Rattle.host_shared.proofs.Owners.{owners_lent}
use Rattle.host_shared.proofs.locations.take_to_move.Goals as goal

pub returns-clause-left : goal.returns-clause-left
returns-clause-left c =
    let sharing = c.args.sharing.now.items in
    c.replace_location.ensures.new
    ∙ ap (λ (h : ℕ). set_location sharing h c.args.k (Here None)) (sym c.requires.owner)
    ∙ sym (over_put sharing c.args.i c.args.k None c.requires.owners c.requires.record)

pub returns-clause-owners : goal.returns-clause-owners
returns-clause-owners c k = rw (returns-clause-left c) (owners_lent c.args.sharing.now.items c.args.i c.requires.owners (with_piece (shared_at c.args.sharing.now.items c.args.i) c.args.k None) k)
