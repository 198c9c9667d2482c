use Rattle.std.proofs.Common.{◌≡◌, ◌∷◌, [], List, rules, subst, sym}
use Rattle.host_shared.specs.declared.locations.Locations.{Locations}
use Rattle.host_shared.specs.Locations.{locations_of}
use Rattle.host_shared.specs.Owners.{HasOwners}
use Rattle.test_lives.proofs.Single.{one_has_owners}
use Rattle.test_lives.proofs.alone.alone.Goals as goal

pub returns-clause-owners : goal.returns-clause-owners
returns-clause-owners g c =
    let is : c.push_reserved.new.self.items ≡ locations_of c.args.pieces ∷ [] = search rules in
    subst (λ (xs : List Locations). HasOwners xs 0) (sym is) (one_has_owners c.args.pieces)
