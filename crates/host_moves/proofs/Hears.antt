-- Who gets algMoved when a block moves.
use Rattle.std.proofs.Common.{◌≡◌, ℕ, ℤ, ◌&&◌, ◌||◌, true, false, inl, inr, List, length, Option, Some, is_some, refl, sym, ◌∙◌, ap, arith}
use Rattle.std.proofs.lemmas.Option.{same_Some}
use Rattle.std.proofs.lemmas.Bool.Decides.{eqb_tells}
use Rattle.mem_rec.specs.declared.Space.{Space}
use Rattle.mem_rec.specs.declared.TheConstants.{INSTANCES}
use Rattle.ialg.specs.Log.{Log, Moved}
use Rattle.ialg.specs.Laws.{Laws}
use Rattle.record_loans.specs.Pieces.{piece_at}
use Rattle.host_map.specs.declared.placed.Owner.{Owner}
use Rattle.host_map.specs.declared.placed.Owner.TheVariants.{Record, Scratch}
use Rattle.host_map.specs.declared.placed.Placed.{Placed}
use Rattle.host_map.specs.MemoryMap.{blocks_in}
use Rattle.host_map.specs.Moves.{next_block}
use Rattle.host_spaces.specs.declared.spaces.Spaces.{Spaces}
use Rattle.host_spaces.specs.MemoryMap.{map_of}
use Rattle.host_shared.specs.declared.locations.Locations.{Locations}
use Rattle.host_shared.specs.Locations.{shared_at}
use Rattle.host_table.specs.declared.member.Member.{Member}
use Rattle.host_table.specs.Table.{is_member_of, slot_at}
use Rattle.host_table.specs.Steps.{AreKept, called_at}
use Rattle.host_table.specs.View.{View}
use Rattle.host_moves.specs.Moves.{has_words, told_until, told_where, IsNextOf}
use Rattle.host_moves.specs.Waiting.{holds_with}
use Rattle.host_moves.proofs.Logs.{until_all}

module _ {M : Type 0} (instances : List (Option (Member M))) (sharing : List Locations) (spaces : Spaces) (space : Space) (owner : Owner) (b : Placed)
    (is_next : IsNextOf spaces space owner) (next : next_block (blocks_in (map_of spaces) space) ≡ Some b) (logs : ℕ → Log) where
  owner_is : b.owner ≡ owner
  owner_is = ap (λ (x : Placed). x.owner) (same_Some b is_next.0 (sym next ∙ is_next.1.0)) ∙ is_next.1.1

  -- the owner alone, where nobody else has the record
  pub own_told : (i k j : ℕ) → owner ≡ Record i k → is_some (piece_at (shared_at sharing i) k) ≡ false
      → called_at i Moved logs j ≡ told_where (has_words instances sharing b.owner) logs j
  own_told i k j is unshared =
      elim (eqb_tells j i) [
        | inl e ↦ rw (owner_is, is, e.0, e.1) refl
        | inr e ↦ rw (owner_is, is, e.0, unshared) refl
      ]

  -- all that share the record, the owner among them
  pub once_told : (i k j : ℕ) (now : List Locations) → owner ≡ Record i k → is_some (piece_at (shared_at sharing i) k) ≡ true
      → holds_with sharing i k i ≡ true → holds_with now i k j ≡ holds_with sharing i k j
      → told_where (holds_with now i k) logs j ≡ told_where (has_words instances sharing b.owner) logs j
  once_told i k j now is shared self same =
      elim (eqb_tells j i) [
        | inl e ↦ rw (owner_is, is, same, e.0, e.1, self) refl
        | inr e ↦ rw (owner_is, is, same, e.0, shared) refl
      ]

  -- the members of the group
  pub block_told : (laws : Laws M) (w : Option ℤ) (g : ℕ) (new : View M) → owner ≡ Scratch g → length new.instances ≡ INSTANCES
      → AreKept laws w new (told_until (λ j. is_member_of g (slot_at instances j)) INSTANCES logs)
      → AreKept laws w new (told_where (has_words instances sharing b.owner) logs)
  block_told laws w g new is count kept =
      rw (owner_is, is) (until_all laws w new (λ j. is_member_of g (slot_at instances j)) INSTANCES logs (omega (arith, count)) kept)
