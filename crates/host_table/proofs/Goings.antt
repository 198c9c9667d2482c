-- An instance goes: its pieces were put back, and what stands with it was handed on.
use Rattle.std.proofs.Common.{◌≡◌, ◌≢◌, ℕ, ◌<◌, true, false, List, length, Option, Some, None, set, refl, sym, ◌∙◌, ap}
use Rattle.std.specs.Prelude.{IsSome}
use Rattle.record_loans.specs.declared.pieces.Pieces.{Pieces}
use Rattle.record_loans.specs.Pieces.{SamePieces, no_pieces}
use Rattle.lifecycle.specs.States.{SameOnce}
use Rattle.host_table.specs.declared.member.Member.{Member}
use Rattle.host_shared.specs.declared.locations.Locations.{Locations}
use Rattle.host_shared.specs.Locations.{location_at, no_locations, locations_at, shared_at}
use Rattle.host_shared.specs.Owners.{with_pieces_of, AllHaveOwners, SameLocations}
use Rattle.host_shared.specs.Sharing.{left_with, location_without}
use Rattle.host_table.specs.Table.{slot_at, instance_of, AreHeld, AreBare}
use Rattle.host_shared.proofs.Stands.{seen_of}
use Rattle.host_shared.proofs.Owners.{count_seen}
use Rattle.host_shared.proofs.Lent.{stands_lent, owners_of_all}
use Rattle.host_table.proofs.Held.{same_members_slot, owners_of_held, held_stays, bare_stays}
use Rattle.host_table.proofs.Sights.{Sees, sees_lent}
use Rattle.host_table.proofs.HeldOn.{held_handed, bare_handed}
use Rattle.host_shared.proofs.Handing.{once_handed, left_stays}

in_slot : {M : Type 0} (slot : Option (Member M)) → IsSome slot → (m : Member M) × (slot ≡ Some m)
in_slot None some = let bad : false ≡ true = some in cc
in_slot (Some m) some = (m, refl)

-- the instance in a slot
pub member_of : {M : Type 0} (instances : List (Option (Member M))) (i : ℕ) → IsSome (slot_at instances i) → (m : Member M) × (slot_at instances i ≡ Some m)
member_of instances i some = in_slot (slot_at instances i) some

-- its pieces were put back
module _ {M : Type 0} (instances : List (Option (Member M))) (sharing : List Locations) (i : ℕ) (m : Member M) (o : Pieces) (sharing' : List Locations) (held : AreHeld instances sharing) (inside : i < length sharing)
    (at : slot_at instances i ≡ Some m) (pieces : SamePieces (shared_at sharing i) o) (put : sharing' ≡ with_pieces_of sharing i o) where
  pub stands_put : SameLocations sharing sharing'
  stands_put = rw put (stands_lent sharing i (owners_of_all sharing i (owners_of_held instances sharing held) inside) o pieces)

  pub count_put : length sharing' ≡ length sharing
  count_put = rw put (count_seen sharing i (owners_of_all sharing i (owners_of_held instances sharing held) inside) o)

  held_put : AreHeld instances sharing'
  held_put = held_stays instances instances sharing sharing' (λ j. same_members_slot (slot_at instances j)) stands_put held

  pub owners_put : AllHaveOwners sharing'
  owners_put = owners_of_held instances sharing' held_put

  pub left_put : SamePieces (left_with sharing i) (left_with sharing' i)
  left_put = left_stays sharing sharing' i (sym count_put) stands_put

  -- and handed on
  module _ (sharing'' : List Locations) (count : length sharing'' ≡ length sharing') (gone : locations_at sharing'' i ≡ no_locations)
      (handed : (j k : ℕ) → location_at (locations_at sharing'' j) k ≡ location_without sharing' i k j) where
    pub held_gone : AreHeld (set instances i None) sharing''
    held_gone = held_handed sharing' sharing'' i owners_put handed instances held_put

    pub bare_gone : AreBare instances sharing → AreBare (set instances i None) sharing''
    bare_gone bare = bare_handed sharing' sharing'' i owners_put handed instances held_put gone (bare_stays instances instances sharing sharing' (λ j. same_members_slot (slot_at instances j)) stands_put bare)

    pub none_gone : shared_at sharing'' i ≡ no_pieces
    none_gone = seen_of sharing'' i no_pieces gone

    once_gone : (j : ℕ) → j ≢ i → shared_at sharing'' j ≡ shared_at (with_pieces_of sharing i o) j
    once_gone j apart = once_handed sharing' sharing'' i owners_put handed j apart ∙ ap (λ (l : List Locations). shared_at l j) put

    pub sees_gone : SameOnce (instance_of m.inst).table (shared_at sharing i) o → Sees instances sharing i no_pieces sharing''
    sees_gone written =
        let sight = sees_lent instances sharing i m o held inside at pieces written in
        record {
          count = count ∙ count_put;
          here = none_gone;
          others = λ j apart. rw (once_gone j apart) (sight.others j apart);
          written = λ j n apart at_j. rw (once_gone j apart) (sight.written j n apart at_j);
        }
