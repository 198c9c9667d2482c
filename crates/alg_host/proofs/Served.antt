-- What a call leaves of the state, and that the host keeps what comes after it.
use Rattle.std.proofs.Common.{◌≡◌, ℕ, ℤ, List, [], ◌∷◌, Option, Some, None, Result, Ok, Err, OnErr, refl, ap, sym, ◌∙◌, subst, lit≤}
use Rattle.std.specs.Prelude.{IfSome}
use Rattle.mem_rec.specs.declared.MemRec.{MemRec}
use Rattle.mem_rec.specs.declared.Space.{Space}
use Rattle.ialg.specs.declared.refusal.Refusal.{Refusal}
use Rattle.ialg.specs.History.{Ctl}
use Rattle.ialg.specs.Meaning.{Meaning}
use Rattle.ialg.specs.Laws.{Laws}
use Rattle.host_map.specs.declared.placed.Placed.{Placed}
use Rattle.host_map.specs.Moves.{next_block}
use Rattle.host_spaces.specs.declared.spaces.Spaces.{Spaces}
use Rattle.host_map.specs.MemoryMap.{MemoryMap, blocks_in}
use Rattle.host_map.specs.Creation.{created_map}
use Rattle.host_spec.specs.State.{Living, State, sharers_of}
use Rattle.host_spec.specs.Steps.{Outcome, unless, control_refusal, controlled, given, processed, release, group_refusal, step, moving, delete, instance_refusal, without_instance, create_refusal, newborn, with_memory, with_room}
use Rattle.host_spec.specs.Calls.{Controls, Creates}
use Rattle.host_spec.specs.Calls.Call.{Process}
use Rattle.host_table.specs.Refinement.{logs_of}
use Rattle.host_table.specs.Steps.{active_beside, Ready, TellsOutput}
use Rattle.host_table.proofs.HistoriesGo.{histories_given}
use Rattle.host_moves.proofs.KeptLemmas.{block_given}
use Rattle.host_moves.specs.Refinement.{TablesRefine}
use Rattle.host_moves.specs.Hosts.{TablesAndSpacesRefine}
use Rattle.host_table.specs.View.{View}
use Rattle.alg_host.specs.Hosts.{HostState, HostCallRefines}

-- the same memory map in the same spaces
pub record SamePlaces {M : Type 0} (before after : State M) : Type 0 where
  pub map : after.map ≡ before.map
  pub sizes : after.sizes ≡ before.sizes
  pub copied : after.copied ≡ before.copied
  pub poison : after.poison ≡ before.poison

itself : {M : Type 0} (s : State M) → SamePlaces s s
itself s = record { map = refl; sizes = refl; copied = refl; poison = refl }

refused_or : {M A : Type 0} (before : State M) (r : Option Refusal) (o : Outcome (State M) A) → SamePlaces before o.1 → SamePlaces before (unless r before o).1
refused_or before None o same = same
refused_or before (Some r) o same = itself before

given_stays : {M : Type 0} (before : State M) (i : ℕ) (x : Option (Living M)) (block : List ℤ) → SamePlaces before (given before i x block)
given_stays before i None block = itself before
given_stays before i (Some x) [] = itself before
given_stays before i (Some x) (s ∷ block) = record { map = refl; sizes = refl; copied = refl; poison = refl }

pub processed_stays : {M : Type 0} (before : State M) (i : ℕ) (block : List ℤ) → SamePlaces before (processed before i block)
processed_stays before i block = given_stays before i (before.living i) block

controlled_stays : {M : Type 0} (before : State M) (i : ℕ) (x : Option (Living M)) (c : Ctl) → SamePlaces before (controlled before i x c)
controlled_stays before i None c = itself before
controlled_stays before i (Some x) c = record { map = refl; sizes = refl; copied = refl; poison = refl }

pub controls_stay : {M : Type 0} (meaning : Meaning M) (before after : State M) (i : ℕ) (c : Ctl) (answer : _) → Controls meaning before i c answer after → SamePlaces before after
controls_stay meaning before after i c answer did =
    subst (λ s. SamePlaces before s) (sym (ap (λ o. o.1) did.outcome))
    (refused_or before (control_refusal before i did.taken) (Ok did.status, controlled before i (before.living i) c) (controlled_stays before i (before.living i) c))

pub release_stays : {M : Type 0} (before : State M) (g : ℕ) → SamePlaces before (release before g).1
release_stays before g = refused_or before (group_refusal before g) _ (record { map = refl; sizes = refl; copied = refl; poison = refl })

moving_poison : {M : Type 0} (before : State M) (space : Space) (b : Option Placed) → (moving before space b).1.poison ≡ before.poison
moving_poison before space None = refl
moving_poison before space (Some b) = refl

pub step_poison : {M : Type 0} (before : State M) (space : Space) → (step before space).1.poison ≡ before.poison
step_poison before space = moving_poison before space (next_block (blocks_in before.map space))

-- the tables keep what comes after, and the spaces are as they were
pub still_kept : {M : Type 0} (laws : Laws M) (old new : View M) (spaces : Spaces) (before after : State M) → TablesAndSpacesRefine laws old spaces before
    → SamePlaces before after → TablesRefine laws new after → TablesAndSpacesRefine laws new spaces after
still_kept laws old new spaces before after kept same tables = record {
  tables = tables;
  map = kept.map ∙ sym same.map;
  sizes = kept.sizes ∙ sym same.sizes;
  copied = kept.copied ∙ sym same.copied;
}

-- ---- samples told by reading alone

-- what the tables tell for a sample is answered as the machine answers it, and the host is as it was
pub told_serves : {M : Type 0} (laws : Laws M) (host : HostState M) → Ready host.poison host.tables → (i : ℕ) (x : ℤ) (told : Option ℤ)
    → IfSome told (TellsOutput laws host.tables i x) → IfSome told (λ y. HostCallRefines laws (Process i (x ∷ []) (y ∷ [])) host host)
told_serves laws host ready i x None tells = tt
told_serves laws host ready i x (Some y) tells = λ before refines.
    let t = host.tables in
    let after = processed before i (x ∷ []) in
    let step = tells.step host.poison ready in
    let did = block_given laws t.instances t.sharing t.groups t.instances t.sharing t.groups before i host.poison (x ∷ []) (y ∷ [])
    refines.poison refines.kept.tables tells.living step.same step.activity
    (histories_given laws host.poison t t i (x ∷ []) (active_beside t i) step.keeps) (λ histories was. tells.output host.poison (logs_of histories was.0) was.1) (lit≤ tt) (lit≤ tt) in
    let same = processed_stays before i (x ∷ []) in (
      after,
      did.0,
      record { kept = still_kept laws t t host.spaces before after refines.kept same did.1; poison = same.poison ∙ refines.poison },
    )

-- ---- deletions

without_poison : {M : Type 0} (kinds : Meaning M) (before : State M) (i : ℕ) (x : Option (Living M)) → (without_instance kinds before i x).poison ≡ before.poison
without_poison kinds before i None = refl
without_poison kinds before i (Some x) = refl

unless_poison : {M A : Type 0} (before : State M) (r : Option Refusal) (o : Outcome (State M) A) → o.1.poison ≡ before.poison → (unless r before o).1.poison ≡ before.poison
unless_poison before None o same = same
unless_poison before (Some r) o same = refl

pub delete_poison : {M : Type 0} (kinds : Meaning M) (before : State M) (i : ℕ) → (delete kinds before i).1.poison ≡ before.poison
delete_poison kinds before i =
    unless_poison before (instance_refusal before i) (Ok tt, without_instance kinds before i (before.living i)) (without_poison kinds before i (before.living i))

pub on_refusal : {A E : Type 0} (r : Result A E) (P Q : Type 0) → (P → Q) → OnErr r P → OnErr r Q
on_refusal (Ok a) P Q imp is = tt
on_refusal (Err e) P Q imp is = imp is

-- ---- creations

with_room_poison : {M : Type 0} (before : State M) (i : ℕ) (x : Living M) (table : List MemRec) (r : Result MemoryMap Space) → (with_room before i x table r).1.poison ≡ before.poison
with_room_poison before i x table (Ok map) = refl
with_room_poison before i x table (Err space) = refl

with_memory_poison : {M : Type 0} (kinds : Meaning M) (before : State M) (i : ℕ) (kind : M) (g : ℕ) (p : List ℤ) (table : Option (List MemRec))
    → (with_memory kinds before i kind g p table).1.poison ≡ before.poison
with_memory_poison kinds before i kind g p None = refl
with_memory_poison kinds before i kind g p (Some table) =
    let x = newborn kind g p table in with_room_poison before i x table (created_map before.sizes before.map i g table (sharers_of kinds before.living x))

pub creates_poison : {M : Type 0} (meaning : Meaning M) (before after : State M) (i : ℕ) (kind : M) (g : ℕ) (p : List ℤ) (answer : Result (Unit {0}) Refusal)
    → Creates meaning before i kind g p answer after → after.poison ≡ before.poison
creates_poison meaning before after i kind g p answer did =
    ap (λ o. o.1.poison) did.outcome
    ∙ unless_poison before (create_refusal before i g) (with_memory meaning before i kind g p did.table) (with_memory_poison meaning before i kind g p did.table)
