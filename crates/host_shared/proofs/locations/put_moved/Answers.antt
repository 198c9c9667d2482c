use Rattle.std.proofs.Common.{ℕ, Some, sym, ◌∙◌, ap}
use Rattle.host_shared.specs.declared.locations.Location.TheVariants.{Here}
use Rattle.host_shared.specs.Owners.{set_location}
use Rattle.host_shared.proofs.Bare.{over_put}
use Rattle.host_shared.proofs.locations.put_moved.Goals as goal

pub returns-clause-back : goal.returns-clause-back
returns-clause-back c =
    let sharing = c.args.sharing.now.items in
    c.replace_location.ensures.new
    ∙ ap (λ (h : ℕ). set_location sharing h c.args.k (Here (Some c.args.piece))) (sym c.requires.owner)
    ∙ sym (over_put sharing c.args.i c.args.k (Some c.args.piece) c.requires.owners c.requires.record)
