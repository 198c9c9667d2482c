-- What each call answers, and the state after it.
use Rattle.std.specs.Prelude.{ℕ, ℤ, ◌+◌, ◌-◌, ◌^◌, min, Bool, true, false, not, ◌&&◌, List, [], ◌∷◌, Option, Some, None, is_some, is_none, Result, Ok, Err, fold, length, sum_by, if◌then◌else◌}
use Rattle.std.specs.List.{range_with_len}
use Rattle.mem_rec.specs.declared.MemRec.{MemRec}
use Rattle.mem_rec.specs.declared.Space.{Space}
use Rattle.ialg.specs.declared.refusal.Refusal.{Refusal}
use Rattle.ialg.specs.declared.refusal.Refusal.TheVariants.{Range, Taken, Missing, Params, Room, Command}
use Rattle.ialg.specs.Refusals.{first_refusal}
use Rattle.ialg.specs.History.{Ctl, Control, with_samples}
use Rattle.ialg.specs.Meaning.{Meaning, Status}
use Rattle.ialg.specs.Records.{unplaced}
use Rattle.mem_rec.specs.declared.TheConstants.{INSTANCES}
use Rattle.host_map.specs.declared.placed.Placed.{Placed}
use Rattle.host_map.specs.Moves.{next_block, unpacked_behind}
use Rattle.host_map.specs.MemoryMap.{MemoryMap, blocks_in, moved_in, packed_in}
use Rattle.host_map.specs.Creation.{created_map, replaces, deleted_map}
use Rattle.host_map.specs.Activity.{Activity, activated, deactivated, without_active, with_at}
use Rattle.host_spec.specs.State.{Living, State, has_member, sharers_of, is_instance_number, is_group_number}

-- what a call that can be refused answers, and the state after it
abbrev pub Outcome : Type 0 → Type 0 → Type 0
Outcome S A = Result A Refusal × S

-- a refused call leaves the state
abbrev pub unless : {S A : Type 0} → Option Refusal → S → Outcome S A → Outcome S A
unless None before outcome = outcome
unless (Some refusal) before outcome = (Err refusal, before)

-- the words that were moved, with so many more. They stay at the greatest number
abbrev pub more_copied : ℕ → ℕ → ℕ
more_copied copied words = min (copied + words) (2 ^ 64 - 1)

-- an instance that was given nothing yet
abbrev pub newborn : {M : Type 0} → M → ℕ → List ℤ → List MemRec → Living M
newborn kind g p table = record { kind = kind; params = p; table = unplaced table; group = g; history = [] }

module _ {M : Type 0} (before : State M) where
  -- ---- creation

  abbrev pub create_refusal : ℕ → ℕ → Option Refusal
  create_refusal i g = first_refusal ((not (is_instance_number i && is_group_number g), Range) ∷ (is_some (before.living i), Taken) ∷ [])

  -- no member stays active where a block of the group is replaced
  abbrev pub created : ℕ → Living M → List MemRec → MemoryMap → State M
  created i x table map =
      let rested = with_at before.activity x.group (deactivated (before.activity x.group)) in
      let activity = if replaces before.map x.group table then rested else before.activity in
      record before { living = with_at before.living i (Some x); map = map; activity = activity }

  abbrev pub with_room : ℕ → Living M → List MemRec → Result MemoryMap Space → Outcome (State M) (Unit {0})
  with_room i x table (Err space) = (Err (Room space), before)
  with_room i x table (Ok map) = (Ok tt, created i x table map)

  -- ---- controls and samples

  -- the instance has become the active member of its group, with this instance in its place
  abbrev pub activating : ℕ → Living M → State M
  activating i x =
      let g = x.group in record before { living = with_at before.living i (Some x); activity = with_at before.activity g (activated i (before.activity g)) }

  abbrev pub controlled : ℕ → Option (Living M) → Ctl → State M
  controlled i None c = before
  controlled i (Some x) c = activating i (record x { history = Control c ∷ x.history })

  abbrev pub control_refusal : ℕ → Bool → Option Refusal
  control_refusal i taken = first_refusal ((not (is_instance_number i), Range) ∷ (is_none (before.living i), Missing) ∷ (not taken, Command) ∷ [])

  -- the instance takes the control and answers so, or doesn't take it
  abbrev pub control : ℕ → Ctl → Bool → Status → Outcome (State M) Status
  control i c taken status = unless (control_refusal i taken) before (Ok status, controlled i (before.living i) c)

  abbrev pub given : ℕ → Option (Living M) → List ℤ → State M
  given i (Some x) (s ∷ block) = activating i (record x { history = with_samples x.history (s ∷ block) })
  given i x block = before

  -- an empty block touches no instance
  abbrev pub processed : ℕ → List ℤ → State M
  processed i block = given i (before.living i) block

  -- ---- deletion

  abbrev pub instance_refusal : ℕ → Option Refusal
  instance_refusal i = first_refusal ((not (is_instance_number i), Range) ∷ (is_none (before.living i), Missing) ∷ [])

  -- ---- groups

  abbrev pub group_refusal : ℕ → Option Refusal
  group_refusal g = first_refusal ((not (is_group_number g), Range) ∷ [])

  -- whether a member was active
  abbrev pub release : ℕ → Outcome (State M) Bool
  release g =
      let a = before.activity g in
      unless (group_refusal g) before (Ok (is_some a.active), record before { activity = with_at before.activity g (deactivated a) })

  abbrev pub stat : ℕ → Outcome (State M) Activity
  stat g = unless (group_refusal g) before (Ok (before.activity g), before)

  -- ---- moves

  -- whether a block moved
  abbrev pub moving : Space → Option Placed → Bool × State M
  moving space None = (false, before)
  moving space (Some b) = (true, record before { map = moved_in before.map space; copied = more_copied before.copied b.size })

  abbrev pub step : Space → Bool × State M
  step space = moving space (next_block (blocks_in before.map space))

  -- how many blocks moved
  abbrev pub compact : Space → ℕ × State M
  compact space =
      let unpacked = unpacked_behind 0 (blocks_in before.map space) in
      (length unpacked, record before { map = packed_in before.map space; copied = more_copied before.copied (sum_by (λ (b : Placed). b.size) unpacked) })

module _ {M : Type 0} (kinds : Meaning M) (before : State M) where
  -- the kind asks for this memory, or refuses the parameters
  abbrev pub with_memory : ℕ → M → ℕ → List ℤ → Option (List MemRec) → Outcome (State M) (Unit {0})
  with_memory i kind g p None = (Err Params, before)
  with_memory i kind g p (Some table) =
      let x = newborn kind g p table in with_room before i x table (created_map before.sizes before.map i g table (sharers_of kinds before.living x))

  abbrev pub create : ℕ → M → ℕ → List ℤ → Option (List MemRec) → Outcome (State M) (Unit {0})
  create i kind g p table = unless (create_refusal before i g) before (with_memory i kind g p table)

  -- its records go, and its group's blocks with the last member. The count stays
  abbrev pub without_instance : ℕ → Option (Living M) → State M
  without_instance i None = before
  without_instance i (Some x) =
      let others = with_at before.living i None in
      let map = deleted_map (has_member others x.group) before.map i x.group (sharers_of kinds others x) in
      record before { living = others; map = map; activity = with_at before.activity x.group (without_active i (before.activity x.group)) }

  abbrev pub delete : ℕ → Outcome (State M) (Unit {0})
  delete i = unless (instance_refusal before i) before (Ok tt, without_instance i (before.living i))

-- all instances are deleted, in ascending number
abbrev pub closed : {M : Type 0} → Meaning M → State M → State M
closed kinds state = fold (λ left i. (delete kinds left i).1) state (range_with_len 0 INSTANCES)
