-- What a move leaves is kept.
use Rattle.std.proofs.Common.{◌≡◌, ℤ, Bool, true, false, List, Option, Some, None, is_some, refl, ap, sym, ◌∙◌, subst}
use Rattle.mem_rec.specs.declared.Space.{Space}
use Rattle.ialg.specs.Records.{ArePoison}
use Rattle.ialg.specs.Laws.{Laws}
use Rattle.scratch_group.specs.declared.group.Group.{Group}
use Rattle.host_table.specs.declared.member.Member.{Member}
use Rattle.host_shared.specs.declared.locations.Locations.{Locations}
use Rattle.host_map.specs.Activity.{Activity}
use Rattle.host_table.specs.Table.{ArePoisoned, group_at, slot_at}
use Rattle.host_map.specs.declared.placed.Placed.{Placed}
use Rattle.host_map.specs.Moves.{next_block}
use Rattle.host_spaces.specs.declared.spaces.Spaces.{Spaces}
use Rattle.host_map.specs.MemoryMap.{blocks_in, moved_in}
use Rattle.host_spaces.specs.MemoryMap.{map_of}
use Rattle.host_moves.specs.Standing.{SlotIsSame}
use Rattle.host_table.specs.Refinement.{logs_of}
use Rattle.host_table.proofs.HistoriesGo.{kept_by_logs}
use Rattle.host_table.proofs.Stepping.{tables}
use Rattle.host_moves.specs.Moves.{has_words, told_where, HasMoved}
use Rattle.host_moves.proofs.Logs.{given_where}
use Rattle.host_spec.specs.State.{Living, State}
use Rattle.host_spec.specs.Steps.{more_copied, moving, step}
use Rattle.host_moves.specs.Refinement.{IsLiving, history_of}
use Rattle.host_moves.specs.Hosts.{ListsAndSpacesRefine}

pub still_living : {M : Type 0} (slot slot' : Option (Member M)) (living : Option (Living M)) → SlotIsSame slot slot' → IsLiving slot living → IsLiving slot' living
still_living None slot' living same is = subst (λ s. IsLiving s living) (sym same) is
still_living (Some m) None living same is = absurd same
still_living (Some m) (Some n) None same is = is
still_living (Some m) (Some n) (Some x) same is = record {
  kind = same.kind ∙ is.kind;
  params = ap (λ p. p.items) same.params ∙ is.params;
  table = same.table ∙ is.table;
  group = same.group ∙ is.group;
}

-- the blocks of groups without an active member hold the poison word still
pub poison_stays : {M : Type 0} (laws : Laws M) (space : Space)
    {instances instances' : List (Option (Member M))} {sharing sharing' : List Locations} {groups groups' : List Group} {spaces spaces' : Spaces} {moved : Bool}
    → (moved ≡ true → HasMoved laws space instances sharing groups spaces instances' sharing' groups' spaces') → (moved ≡ false → groups' ≡ groups)
    → (w : Option ℤ) → ArePoisoned w groups → ArePoisoned w groups'
poison_stays laws space {moved = false} moves packed w before = rw (packed refl) before
poison_stays laws space {groups} {moved = true} moves packed w before =
    let it = moves refl in
    λ g below none s.
    let was : (group_at groups g).active ≡ None = sym (ap (λ (a : Activity). a.active) (it.activity g)) ∙ none in
    subst (ArePoison w) (sym (it.words g s was)) (before g below was s)

module _ {M : Type 0} (laws : Laws M) (space : Space)
    {instances : List (Option (Member M))} {sharing : List Locations} {groups : List Group} {spaces : Spaces} (before : State M)
    (kept : ListsAndSpacesRefine laws instances sharing groups spaces before) where
  -- the state with a block of so many words elsewhere
  abbrev stepped : Placed → State M
  stepped b = record before { map = moved_in before.map space; copied = more_copied before.copied b.size }

  next_in_state : next_block (blocks_in before.map space) ≡ next_block (blocks_in (map_of spaces) space)
  next_in_state = ap (λ p. next_block (blocks_in p space)) (sym kept.map)

  keeps_moved : {instances' : List (Option (Member M))} {sharing' : List Locations} {groups' : List Group} {spaces' : Spaces} (b : Placed)
      → next_block (blocks_in (map_of spaces) space) ≡ Some b
      → HasMoved laws space instances sharing groups spaces instances' sharing' groups' spaces'
      → ListsAndSpacesRefine laws instances' sharing' groups' spaces' (stepped b)
  keeps_moved {instances'} {sharing'} {groups'} b next moved = record {
    tables = record {
      living = λ i. still_living (slot_at instances i) (slot_at instances' i) (before.living i) (moved.same i) (kept.tables.living i);
      activity = λ g. moved.activity g ∙ kept.tables.activity g;
      histories =
          kept_by_logs laws before.poison (tables instances' sharing' groups') (told_where (has_words instances sharing b.owner) (logs_of (λ i. history_of (before.living i)) kept.tables.histories.0))
          (λ i. history_of (before.living i)) (λ i. given_where (has_words instances sharing b.owner) (logs_of (λ j. history_of (before.living j)) kept.tables.histories.0) i)
          (moved.keeps b next before.poison (logs_of (λ i. history_of (before.living i)) kept.tables.histories.0) kept.tables.histories.1);
    };
    map = moved.map ∙ ap (λ p. moved_in p space) kept.map;
    sizes = moved.sizes ∙ kept.sizes;
    copied = moved.copied b next ∙ ap (λ c. more_copied c b.size) kept.copied;
  }

  -- what the step answers and leaves
  abbrev IsStep : List (Option (Member M)) → List Locations → List Group → Spaces → Bool → Bool × State M → Type 0
  IsStep instances' sharing' groups' spaces' answer outcome = ((answer, outcome.1) ≡ outcome) × ListsAndSpacesRefine laws instances' sharing' groups' spaces' outcome.1

  by_next : {instances' : List (Option (Member M))} {sharing' : List Locations} {groups' : List Group} {spaces' : Spaces} (next : Option Placed) (answer : Bool)
      → next_block (blocks_in (map_of spaces) space) ≡ next → answer ≡ is_some next
      → (answer ≡ true → HasMoved laws space instances sharing groups spaces instances' sharing' groups' spaces')
      → (answer ≡ false → ListsAndSpacesRefine laws instances' sharing' groups' spaces' before)
      → IsStep instances' sharing' groups' spaces' answer (moving before space next)
  by_next None answer next is moved still = (ap (λ (a : Bool). let o : Bool × State M = (a, before) in o) is, still is)
  by_next (Some b) answer next is moved still = (ap (λ (a : Bool). let o : Bool × State M = (a, stepped b) in o) is, keeps_moved b next (moved is))

  pub step_kept : {instances' : List (Option (Member M))} {sharing' : List Locations} {groups' : List Group} {spaces' : Spaces} {answer : Bool}
      → answer ≡ is_some (next_block (blocks_in (map_of spaces) space))
      → (answer ≡ true → HasMoved laws space instances sharing groups spaces instances' sharing' groups' spaces')
      → (answer ≡ false → ListsAndSpacesRefine laws instances' sharing' groups' spaces' before)
      → IsStep instances' sharing' groups' spaces' answer (step before space)
  step_kept {instances'} {sharing'} {groups'} {spaces'} {answer} is moved still =
      subst (λ n. IsStep instances' sharing' groups' spaces' answer (moving before space n)) (sym next_in_state)
      (by_next (next_block (blocks_in (map_of spaces) space)) answer refl is moved still)
