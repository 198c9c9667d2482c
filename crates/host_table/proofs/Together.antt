-- Alike instances stand together with their least sharer: where that stays so.
use Rattle.std.proofs.Common.{◌≡◌, ℕ, List, Option, Some, None, refl, sym, ◌∙◌, subst}
use Rattle.std.proofs.lemmas.Option.{none-some}
use Rattle.host_table.specs.declared.member.Member.{Member}
use Rattle.host_shared.specs.declared.locations.Location.{Location}
use Rattle.host_shared.specs.declared.locations.Location.TheVariants.{Here, At}
use Rattle.host_shared.specs.declared.locations.Locations.{Locations}
use Rattle.host_shared.specs.Locations.{location_at, locations_at, owner_by, owner_of}
use Rattle.host_shared.specs.Owners.{IsPieceHere}
use Rattle.host_table.specs.Table.{slot_at, instance_of, AreAlike, IsSharer, AreHeld}
use Rattle.host_table.specs.Sharers.{AreTogether}
use Rattle.host_table.proofs.Held.{SameSharer, IsSameSharer, alike_stays}

pub sharer_back : {M : Type 0} (m n : Member M) → SameSharer m n → SameSharer n m
sharer_back m n same = record { kind = sym same.kind; params = sym same.params; table = sym same.table }

-- the instance that was there
pub sharer_before : {M : Type 0} (a : Option (Member M)) (n : Member M) → IsSameSharer a (Some n) → (m : Member M) × (a ≡ Some m) × SameSharer m n
sharer_before None n same = absurd (none-some n (sym same))
sharer_before (Some m) n same = (m, refl, same)

-- the same instances, each record of which has the same owner
pub together_by_owners : {M : Type 0} (instances instances' : List (Option (Member M))) (sharing sharing' : List Locations) → ((j : ℕ) → IsSameSharer (slot_at instances j) (slot_at instances' j))
    → ((j k : ℕ) → owner_of sharing' j k ≡ owner_of sharing j k) → AreTogether instances sharing → AreTogether instances' sharing'
together_by_owners instances instances' sharing sharing' same owners together i j k m n here there alike =
    let first = sharer_before (slot_at instances i) m (subst (λ (x : Option (Member _)). IsSameSharer (slot_at instances i) x) here (same i)) in
    let second = sharer_before (slot_at instances j) n (subst (λ (x : Option (Member _)). IsSameSharer (slot_at instances j) x) there (same j)) in
    owners i k
    ∙ together i j k first.0 second.0 first.1 second.1 (alike_stays k m n first.0 second.0 (sharer_back first.0 m first.2) (sharer_back second.0 n second.2) alike)
    ∙ sym (owners j k)

-- the owner of a record lives
owner_by_sharer : {M : Type 0} (k : ℕ) (a b : Option (Member M)) (s : Location) → IsSharer k a b s → (n : Member M) × (b ≡ Some n)
owner_by_sharer k None b s h = absurd h
owner_by_sharer k (Some m) None s h = absurd h
owner_by_sharer k (Some m) (Some n) s h = (n, refl)

owner_by_location : {M : Type 0} (instances : List (Option (Member M))) (sharing : List Locations) (i k : ℕ) (m : Member M) (s : Location) → location_at (locations_at sharing i) k ≡ s → AreHeld instances sharing → slot_at instances i ≡ Some m
    → (n : Member M) × (slot_at instances (owner_by i s) ≡ Some n)
owner_by_location instances sharing i k m (Here p) is held at = (m, at)
owner_by_location instances sharing i k m (At h) is held at = owner_by_sharer k (slot_at instances i) (slot_at instances h) (location_at (locations_at sharing h) k) (held i k h is)

pub owner_lives : {M : Type 0} (instances : List (Option (Member M))) (sharing : List Locations) (i k : ℕ) (m : Member M) → AreHeld instances sharing → slot_at instances i ≡ Some m → (n : Member M) × (slot_at instances (owner_of sharing i k) ≡ Some n)
owner_lives instances sharing i k m held at = owner_by_location instances sharing i k m (location_at (locations_at sharing i) k) refl held at

-- the two instances of a record that stands with another instance
pub sharers : {M : Type 0} (k : ℕ) (a b : Option (Member M)) (s : Location) → IsSharer k a b s
    → (m : Member M) × (n : Member M) × (a ≡ Some m) × (b ≡ Some n) × AreAlike k (instance_of m.inst) (instance_of n.inst) × IsPieceHere s
sharers k None b s h = absurd h
sharers k (Some m) None s h = absurd h
sharers k (Some m) (Some n) s h = (m, n, refl, refl, h.0, h.1)
