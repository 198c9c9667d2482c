-- What the laws of outcomes say: each case of a call, in the order in which it is looked at.
use Rattle.std.specs.Prelude.{◌≡◌, ◌≤◌, ◌<◌, ◌⊎◌, ◌∷◌, [], ℕ, ℤ, Bool, true, false, List, Option, Some, None, Ok, Err, length, is_some}
use Rattle.mem_rec.specs.declared.MemRec.{MemRec}
use Rattle.mem_rec.specs.declared.Space.{Space}
use Rattle.mem_rec.specs.declared.TheConstants.{INSTANCES, GROUPS}
use Rattle.ialg.specs.declared.refusal.Refusal.TheVariants.{Range, Taken, Missing, Params, Room, Command}
use Rattle.ialg.specs.History.{Ctl, Control, with_samples}
use Rattle.ialg.specs.Meaning.{Meaning, Status}
use Rattle.host_map.specs.MemoryMap.{MemoryMap}
use Rattle.host_map.specs.Creation.{created_map}
use Rattle.host_map.specs.Activity.{deactivated, with_at}
use Rattle.host_spec.specs.State.{State, Living, sharers_of}
use Rattle.host_spec.specs.Steps.{newborn, create, created, control, activating, processed, delete, without_instance, release, stat}

-- ---- creations

-- a number out of range is refused first
abbrev pub CreationRefusesRange : Type 0 → Type 0
CreationRefusesRange M =
    (kinds : Meaning M) (before : State M) (i g : ℕ) (kind : M) (p : List ℤ) (table : Option (List MemRec))
    → (INSTANCES ≤ i) ⊎ (GROUPS ≤ g) → create kinds before i kind g p table ≡ (Err Range, before)

-- then one that is taken
abbrev pub CreationRefusesTaken : Type 0 → Type 0
CreationRefusesTaken M =
    (kinds : Meaning M) (before : State M) (i g : ℕ) (kind : M) (p : List ℤ) (table : Option (List MemRec)) (x : Living M)
    → i < INSTANCES → g < GROUPS → before.living i ≡ Some x → create kinds before i kind g p table ≡ (Err Taken, before)

-- then parameters that the kind refuses
abbrev pub CreationRefusesParams : Type 0 → Type 0
CreationRefusesParams M =
    (kinds : Meaning M) (before : State M) (i g : ℕ) (kind : M) (p : List ℤ)
    → i < INSTANCES → g < GROUPS → before.living i ≡ None → create kinds before i kind g p None ≡ (Err Params, before)

-- then a table that finds no room in a space
abbrev pub CreationRefusesRoom : Type 0 → Type 0
CreationRefusesRoom M =
    (kinds : Meaning M) (before : State M) (i g : ℕ) (kind : M) (p : List ℤ) (table : List MemRec) (space : Space)
    → i < INSTANCES → g < GROUPS → before.living i ≡ None
    → created_map before.sizes before.map i g table (sharers_of kinds before.living (newborn kind g p table)) ≡ Err space
    → create kinds before i kind g p (Some table) ≡ (Err (Room space), before)

-- and else the instance is born, with its blocks in the map
abbrev pub CreationGrants : Type 0 → Type 0
CreationGrants M =
    (kinds : Meaning M) (before : State M) (i g : ℕ) (kind : M) (p : List ℤ) (table : List MemRec) (map : MemoryMap)
    → i < INSTANCES → g < GROUPS → before.living i ≡ None
    → created_map before.sizes before.map i g table (sharers_of kinds before.living (newborn kind g p table)) ≡ Ok map
    → create kinds before i kind g p (Some table) ≡ (Ok tt, created before i (newborn kind g p table) table map)

-- ---- controls

-- a number out of range is refused first
abbrev pub ControlRefusesRange : Type 0 → Type 0
ControlRefusesRange M =
    (before : State M) (i : ℕ) (c : Ctl) (taken : Bool) (status : Status)
    → INSTANCES ≤ i → control before i c taken status ≡ (Err Range, before)

-- then an instance that doesn't live
abbrev pub ControlRefusesMissing : Type 0 → Type 0
ControlRefusesMissing M =
    (before : State M) (i : ℕ) (c : Ctl) (taken : Bool) (status : Status)
    → i < INSTANCES → before.living i ≡ None → control before i c taken status ≡ (Err Missing, before)

-- then a control that the instance doesn't take
abbrev pub ControlRefusesCommand : Type 0 → Type 0
ControlRefusesCommand M =
    (before : State M) (i : ℕ) (c : Ctl) (status : Status) (x : Living M)
    → i < INSTANCES → before.living i ≡ Some x → control before i c false status ≡ (Err Command, before)

-- and else the instance becomes the active member of its group, with the control in its history
abbrev pub ControlGrants : Type 0 → Type 0
ControlGrants M =
    (before : State M) (i : ℕ) (c : Ctl) (status : Status) (x : Living M)
    → i < INSTANCES → before.living i ≡ Some x
    → control before i c true status ≡ (Ok status, activating before i (record x { history = Control c ∷ x.history }))

-- ---- samples

-- a block that isn't empty makes the instance the active member of its group and stands in its history
abbrev pub SamplesActivate : Type 0 → Type 0
SamplesActivate M =
    (before : State M) (i : ℕ) (block : List ℤ) (x : Living M) → before.living i ≡ Some x → 1 ≤ length block
    → processed before i block ≡ activating before i (record x { history = with_samples x.history block })

-- an empty block does nothing
abbrev pub EmptyBlocksDoNothing : Type 0 → Type 0
EmptyBlocksDoNothing M = (before : State M) (i : ℕ) → processed before i [] ≡ before

-- ---- deletions

-- a host refuses a number out of range first
abbrev pub HostDeletionRefusesRange : Type 0 → Type 0
HostDeletionRefusesRange M = (kinds : Meaning M) (before : State M) (i : ℕ) → INSTANCES ≤ i → delete kinds before i ≡ (Err Range, before)

-- then an instance that doesn't live
abbrev pub HostDeletionRefusesMissing : Type 0 → Type 0
HostDeletionRefusesMissing M =
    (kinds : Meaning M) (before : State M) (i : ℕ) → i < INSTANCES → before.living i ≡ None → delete kinds before i ≡ (Err Missing, before)

-- and else the instance goes
abbrev pub HostDeletionGrants : Type 0 → Type 0
HostDeletionGrants M =
    (kinds : Meaning M) (before : State M) (i : ℕ) (x : Living M) → i < INSTANCES → before.living i ≡ Some x
    → delete kinds before i ≡ (Ok tt, without_instance kinds before i (Some x))

-- ---- groups

-- a release of a group refuses a number out of range
abbrev pub ReleaseRefusesRange : Type 0 → Type 0
ReleaseRefusesRange M = (before : State M) (g : ℕ) → GROUPS ≤ g → release before g ≡ (Err Range, before)

-- and else says whether a member was active, and none is then
abbrev pub ReleaseGrants : Type 0 → Type 0
ReleaseGrants M =
    (before : State M) (g : ℕ) → g < GROUPS
    → release before g
    ≡ (Ok (is_some (before.activity g).active), record before { activity = with_at before.activity g (deactivated (before.activity g)) })

-- a look at the activity of a group refuses a number out of range
abbrev pub StatRefusesRange : Type 0 → Type 0
StatRefusesRange M = (before : State M) (g : ℕ) → GROUPS ≤ g → stat before g ≡ (Err Range, before)

-- and else says it, and changes nothing
abbrev pub StatGrants : Type 0 → Type 0
StatGrants M = (before : State M) (g : ℕ) → g < GROUPS → stat before g ≡ (Ok (before.activity g), before)
