-- What each call answers, case by case.
use Rattle.std.proofs.Common.{◌≡◌, ◌≤◌, ◌<◌, ◌⊎◌, ℕ, ℤ, Bool, true, false, List, [], ◌∷◌, length, Option, Some, None, Ok, Err, refl, ap, ◌∙◌, arith}
use Rattle.std.specs.Prelude.{not, ◌&&◌, is_some, is_none}
use Rattle.std.proofs.lemmas.Bool.{lt-ltb, le-ltb, and_from, and_left, and_right}
use Rattle.relocate.proofs.RangeTests.{either}
use Rattle.mem_rec.specs.declared.MemRec.{MemRec}
use Rattle.mem_rec.specs.declared.Space.{Space}
use Rattle.ialg.specs.declared.refusal.Refusal.TheVariants.{Range, Taken, Missing, Params, Room, Command}
use Rattle.ialg.specs.Refusals.{first_refusal}
use Rattle.ialg.specs.History.{Ctl, Control, with_samples}
use Rattle.ialg.specs.Meaning.{Meaning, Status}
use Rattle.mem_rec.specs.declared.TheConstants.{INSTANCES, GROUPS}
use Rattle.host_map.specs.MemoryMap.{MemoryMap}
use Rattle.host_map.specs.Creation.{created_map}
use Rattle.host_map.specs.Activity.{deactivated, with_at}
use Rattle.host_spec.specs.State.{State, Living, sharers_of, is_instance_number, is_group_number}
use Rattle.host_spec.specs.Steps.{Outcome, unless, newborn, with_room, with_memory, create, created, control, controlled, given, activating, processed, delete, without_instance, release, stat}

is_number : (i : ℕ) → i < INSTANCES → is_instance_number i ≡ true
is_number i lt = lt-ltb i INSTANCES lt

no_number : (i : ℕ) → INSTANCES ≤ i → is_instance_number i ≡ false
no_number i le = le-ltb i INSTANCES le

is_group : (g : ℕ) → g < GROUPS → is_group_number g ≡ true
is_group g lt = lt-ltb g GROUPS lt

no_group : (g : ℕ) → GROUPS ≤ g → is_group_number g ≡ false
no_group g le = le-ltb g GROUPS le

module _ {M : Type 0} (before : State M) where
  -- ---- creation, by whether the numbers are in range and the instance's is taken

  abbrev creating : {A : Type 0} → Bool → Bool → Outcome (State M) A → Outcome (State M) A
  creating numbers taken outcome = unless (first_refusal ((not numbers, Range) ∷ (taken, Taken) ∷ [])) before outcome

  numbers_are : (i g : ℕ) → i < INSTANCES → g < GROUPS → (is_instance_number i && is_group_number g) ≡ true
  numbers_are i g lt small = and_from (is_instance_number i) (is_group_number g) (is_number i lt) (is_group g small)

  numbers_arent : (i g : ℕ) → (INSTANCES ≤ i) ⊎ (GROUPS ≤ g) → (is_instance_number i && is_group_number g) ≡ false
  numbers_arent i g out =
      either out (λ le. and_left (is_instance_number i) (is_group_number g) (no_number i le)) (λ le. and_right (is_instance_number i) (is_group_number g) (no_group g le))

  module _ (kinds : Meaning M) (i g : ℕ) (kind : M) (p : List ℤ) where
    pub create_range : (table : Option (List MemRec)) → (INSTANCES ≤ i) ⊎ (GROUPS ≤ g) → create kinds before i kind g p table ≡ (Err Range, before)
    create_range table out = ap (λ numbers. creating numbers (is_some (before.living i)) (with_memory kinds before i kind g p table)) (numbers_arent i g out)

    pub create_taken : (table : Option (List MemRec)) (x : Living M) → i < INSTANCES → g < GROUPS → before.living i ≡ Some x
        → create kinds before i kind g p table ≡ (Err Taken, before)
    create_taken table x lt small there =
        ap (λ numbers. creating numbers (is_some (before.living i)) (with_memory kinds before i kind g p table)) (numbers_are i g lt small)
        ∙ ap (λ y. creating true (is_some y) (with_memory kinds before i kind g p table)) there

    free : (table : Option (List MemRec)) → i < INSTANCES → g < GROUPS → before.living i ≡ None
        → create kinds before i kind g p table ≡ with_memory kinds before i kind g p table
    free table lt small none =
        ap (λ numbers. creating numbers (is_some (before.living i)) (with_memory kinds before i kind g p table)) (numbers_are i g lt small)
        ∙ ap (λ y. creating true (is_some y) (with_memory kinds before i kind g p table)) none

    pub create_params : i < INSTANCES → g < GROUPS → before.living i ≡ None → create kinds before i kind g p None ≡ (Err Params, before)
    create_params lt small none = free None lt small none

    pub create_room : (table : List MemRec) (space : Space) → i < INSTANCES → g < GROUPS → before.living i ≡ None
        → created_map before.sizes before.map i g table (sharers_of kinds before.living (newborn kind g p table)) ≡ Err space → create kinds before i kind g p (Some table) ≡ (Err (Room space), before)
    create_room table space lt small none e = free (Some table) lt small none ∙ ap (with_room before i (newborn kind g p table) table) e

    pub create_granted : (table : List MemRec) (map : MemoryMap) → i < INSTANCES → g < GROUPS → before.living i ≡ None
        → created_map before.sizes before.map i g table (sharers_of kinds before.living (newborn kind g p table)) ≡ Ok map
        → create kinds before i kind g p (Some table) ≡ (Ok tt, created before i (newborn kind g p table) table map)
    create_granted table map lt small none e = free (Some table) lt small none ∙ ap (with_room before i (newborn kind g p table) table) e

  -- ---- controls

  module _ (i : ℕ) (c : Ctl) (status : Status) where
    abbrev controlling : Bool → Option (Living M) → Bool → Outcome (State M) Status
    controlling number x taken =
        unless (first_refusal ((not number, Range) ∷ (is_none x, Missing) ∷ (not taken, Command) ∷ [])) before (Ok status, controlled before i x c)

    pub control_range : (taken : Bool) → INSTANCES ≤ i → control before i c taken status ≡ (Err Range, before)
    control_range taken le = ap (λ number. controlling number (before.living i) taken) (no_number i le)

    number_controlled : (taken : Bool) → i < INSTANCES → control before i c taken status ≡ controlling true (before.living i) taken
    number_controlled taken lt = ap (λ number. controlling number (before.living i) taken) (is_number i lt)

    pub control_missing : (taken : Bool) → i < INSTANCES → before.living i ≡ None → control before i c taken status ≡ (Err Missing, before)
    control_missing taken lt none = number_controlled taken lt ∙ ap (λ x. controlling true x taken) none

    pub control_command : (x : Living M) → i < INSTANCES → before.living i ≡ Some x → control before i c false status ≡ (Err Command, before)
    control_command x lt there = number_controlled false lt ∙ ap (λ y. controlling true y false) there

    pub control_granted : (x : Living M) → i < INSTANCES → before.living i ≡ Some x
        → control before i c true status ≡ (Ok status, activating before i (record x { history = Control c ∷ x.history }))
    control_granted x lt there = number_controlled true lt ∙ ap (λ y. controlling true y true) there

  -- ---- samples

  given_some : (i : ℕ) (block : List ℤ) (x : Living M) → 1 ≤ length block
      → given before i (Some x) block ≡ activating before i (record x { history = with_samples x.history block })
  given_some i [] x some = absurd (omega arith)
  given_some i (s ∷ block) x some = refl

  pub process_some : (i : ℕ) (block : List ℤ) (x : Living M) → before.living i ≡ Some x → 1 ≤ length block
      → processed before i block ≡ activating before i (record x { history = with_samples x.history block })
  process_some i block x there some = ap (λ y. given before i y block) there ∙ given_some i block x some

  given_none : (i : ℕ) (x : Option (Living M)) → given before i x [] ≡ before
  given_none i None = refl
  given_none i (Some x) = refl

  pub process_none : (i : ℕ) → processed before i [] ≡ before
  process_none i = given_none i (before.living i)

  -- ---- deletion

  module _ (kinds : Meaning M) where
    abbrev deleting : ℕ → Bool → Option (Living M) → Outcome (State M) (Unit {0})
    deleting i number x = unless (first_refusal ((not number, Range) ∷ (is_none x, Missing) ∷ [])) before (Ok tt, without_instance kinds before i x)

    pub delete_range : (i : ℕ) → INSTANCES ≤ i → delete kinds before i ≡ (Err Range, before)
    delete_range i le = ap (λ number. deleting i number (before.living i)) (no_number i le)

    pub delete_missing : (i : ℕ) → i < INSTANCES → before.living i ≡ None → delete kinds before i ≡ (Err Missing, before)
    delete_missing i lt none = ap (λ number. deleting i number (before.living i)) (is_number i lt) ∙ ap (λ x. deleting i true x) none

    pub delete_granted : (i : ℕ) (x : Living M) → i < INSTANCES → before.living i ≡ Some x → delete kinds before i ≡ (Ok tt, without_instance kinds before i (Some x))
    delete_granted i x lt there = ap (λ number. deleting i number (before.living i)) (is_number i lt) ∙ ap (λ y. deleting i true y) there

  -- ---- groups

  abbrev grouped : {A : Type 0} → Bool → Outcome (State M) A → Outcome (State M) A
  grouped group outcome = unless (first_refusal ((not group, Range) ∷ [])) before outcome

  abbrev resting : ℕ → State M
  resting g = record before { activity = with_at before.activity g (deactivated (before.activity g)) }

  pub release_range : (g : ℕ) → GROUPS ≤ g → release before g ≡ (Err Range, before)
  release_range g le = ap (λ group. grouped group (Ok (is_some (before.activity g).active), resting g)) (no_group g le)

  pub release_granted : (g : ℕ) → g < GROUPS → release before g ≡ (Ok (is_some (before.activity g).active), resting g)
  release_granted g lt = ap (λ group. grouped group (Ok (is_some (before.activity g).active), resting g)) (is_group g lt)

  pub stat_range : (g : ℕ) → GROUPS ≤ g → stat before g ≡ (Err Range, before)
  stat_range g le = ap (λ group. grouped group (Ok (before.activity g), before)) (no_group g le)

  pub stat_granted : (g : ℕ) → g < GROUPS → stat before g ≡ (Ok (before.activity g), before)
  stat_granted g lt = ap (λ group. grouped group (Ok (before.activity g), before)) (is_group g lt)
