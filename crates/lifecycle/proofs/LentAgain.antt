-- After a call an instance can be lent its records again.
use Rattle.std.proofs.Common.{◌<◌, ℕ, List, length, ap, subst, sym, arith}
use Rattle.mem_rec.specs.declared.Space.{Space}
use Rattle.record_loans.specs.Blocks.{IsSameBlock}
use Rattle.record_loans.specs.Pieces.{SamePieces}
use Rattle.scratch_group.specs.declared.group.Group.{Group}
use Rattle.scratch_group.specs.Blocks.{block_in}
use Rattle.host_shared.specs.declared.locations.Locations.{Locations}
use Rattle.host_shared.specs.Locations.{shared_at}
use Rattle.host_shared.specs.Owners.{HasOwners, OnlyItsPiecesChange}
use Rattle.host_shared.proofs.Owners.{count_seen, owners_lent}
use Rattle.lifecycle.specs.declared.instance.Instance.{Instance}
use Rattle.lifecycle.specs.States.{Fits, SameInstance}
use Rattle.lifecycle.specs.Turns.{CanBeLent}
use Rattle.lifecycle.proofs.Frames.{fits_at}

module _ (i : ℕ) (sharing sharing' : List Locations) (number : i < length sharing) (owners : HasOwners sharing i) (seen : OnlyItsPiecesChange i sharing sharing') where
  pub number_again : i < length sharing'
  number_again = let same = ap length seen in let count = count_seen sharing i owners (shared_at sharing' i) in omega (arith, number, same, count)

  pub owners_again : HasOwners sharing' i
  owners_again = subst (λ (xs : List Locations). HasOwners xs i) (sym seen) (owners_lent sharing i owners (shared_at sharing' i))

-- where it fits after the call
pub lent_where_fits : {M : Type 0} (s s' : Instance M) (i : ℕ) (sharing sharing' : List Locations) (g' : Group) → i < length sharing → HasOwners sharing i → OnlyItsPiecesChange i sharing sharing'
    → Fits s'.table s'.own (shared_at sharing' i) g' → CanBeLent s' sharing' i g'
lent_where_fits s s' i sharing sharing' g' number owners seen fits =
    record { number = number_again i sharing sharing' number owners seen; owners = owners_again i sharing sharing' number owners seen; fits = fits }

-- where its pieces and blocks stay where they are
pub lent_again : {M : Type 0} (s s' : Instance M) (i : ℕ) (sharing sharing' : List Locations) (g g' : Group) → SameInstance s s' → OnlyItsPiecesChange i sharing sharing'
    → SamePieces (shared_at sharing i) (shared_at sharing' i) → ((space : Space) → IsSameBlock (block_in g space) (block_in g' space)) → CanBeLent s sharing i g → CanBeLent s' sharing' i g'
lent_again s s' i sharing sharing' g g' same seen pieces blocks lent =
    lent_where_fits s s' i sharing sharing' g' lent.number lent.owners seen
    (rw same.table (fits_at s.table s.own s'.own (shared_at sharing i) (shared_at sharing' i) g g' same.own pieces (λ space. (blocks space).0) lent.fits))
