-- The locations of one instance that shares its records with nobody.
use Rattle.std.proofs.Common.{ℕ, zero, suc, [], ◌∷◌, None, refl, lit≤}
use Rattle.record_loans.specs.declared.pieces.Pieces.{Pieces}
use Rattle.host_shared.specs.Locations.{locations_of}
use Rattle.host_shared.specs.Owners.{HasOwner, HasOwners}

one_has_owner : (o : Pieces) (k : ℕ) → HasOwner (locations_of o ∷ []) 0 k
one_has_owner o zero = record { inside = lit≤ tt; settled = (o.p0, refl) }
one_has_owner o (suc zero) = record { inside = lit≤ tt; settled = (o.p1, refl) }
one_has_owner o (suc (suc zero)) = record { inside = lit≤ tt; settled = (o.p2, refl) }
one_has_owner o (suc (suc (suc zero))) = record { inside = lit≤ tt; settled = (o.p3, refl) }
one_has_owner o (suc (suc (suc (suc k)))) = record { inside = lit≤ tt; settled = (None, refl) }

pub one_has_owners : (o : Pieces) → HasOwners (locations_of o ∷ []) 0
one_has_owners o k = one_has_owner o k
