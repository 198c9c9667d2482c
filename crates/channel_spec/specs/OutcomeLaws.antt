-- What the laws of outcomes say: each case of a call, in the order in which it is looked at.
use Rattle.std.specs.Prelude.{◌≡◌, ◌≤◌, ◌<◌, ◌⊎◌, [], ℕ, true, false, List, Some, None, Ok, Err, length}
use Rattle.std.specs.List.{list_all, list_any}
use Rattle.ialg.specs.declared.refusal.Refusal.TheVariants.{Range, Taken, Missing, Busy}
use Rattle.ialg.specs.Meaning.{Meaning}
use Rattle.mem_rec.specs.declared.TheConstants.{INSTANCES}
use Rattle.host_spec.specs.State.{Living, is_instance_number}
use Rattle.host_spec.specs.Steps as steps
use Rattle.channel_spec.specs.Channels.{Channels, members_at, is_chained, is_in_channel, has_repeat}
use Rattle.channel_spec.specs.Steps.{chain, unchain, ready, delete}
use Rattle.channel_spec.specs.Parts.{all_live, on_host, with_members}

-- ---- chaining

-- a number out of range is refused first
abbrev pub ChainRefusesRange : Type 0 → Type 0
ChainRefusesRange M =
    (before : Channels M) (c : ℕ) (members : List ℕ)
    → (length before.chained ≤ c) ⊎ (list_all is_instance_number members ≡ false) → chain before c members ≡ (Err Range, before)

-- then a channel that has members
abbrev pub ChainRefusesTaken : Type 0 → Type 0
ChainRefusesTaken M =
    (before : Channels M) (c : ℕ) (members : List ℕ)
    → c < length before.chained → list_all is_instance_number members ≡ true → is_chained (members_at before.chained c) ≡ true
    → chain before c members ≡ (Err Taken, before)

-- then a member that doesn't live
abbrev pub ChainRefusesMissing : Type 0 → Type 0
ChainRefusesMissing M =
    (before : Channels M) (c : ℕ) (members : List ℕ)
    → c < length before.chained → list_all is_instance_number members ≡ true → is_chained (members_at before.chained c) ≡ false
    → all_live before.host members ≡ false → chain before c members ≡ (Err Missing, before)

-- then one that is in a channel, or named twice
abbrev pub ChainRefusesBusy : Type 0 → Type 0
ChainRefusesBusy M =
    (before : Channels M) (c : ℕ) (members : List ℕ)
    → c < length before.chained → list_all is_instance_number members ≡ true → is_chained (members_at before.chained c) ≡ false
    → all_live before.host members ≡ true → (list_any (is_in_channel before.chained) members ≡ true) ⊎ (has_repeat members ≡ true)
    → chain before c members ≡ (Err Busy, before)

-- and else the channel has these members
abbrev pub ChainGrants : Type 0 → Type 0
ChainGrants M =
    (before : Channels M) (c : ℕ) (members : List ℕ)
    → c < length before.chained → list_all is_instance_number members ≡ true → is_chained (members_at before.chained c) ≡ false
    → all_live before.host members ≡ true → list_any (is_in_channel before.chained) members ≡ false → has_repeat members ≡ false
    → chain before c members ≡ (Ok tt, with_members before c members)

-- ---- unchaining, and what can be fed

-- a number out of range is refused first
abbrev pub UnchainRefusesRange : Type 0 → Type 0
UnchainRefusesRange M =
    (before : Channels M) (c : ℕ) → length before.chained ≤ c
    → (unchain before c ≡ (Err Range, before)) × (ready before c ≡ (Err Range, before))

-- then a channel that has no members
abbrev pub UnchainRefusesMissing : Type 0 → Type 0
UnchainRefusesMissing M =
    (before : Channels M) (c : ℕ) → c < length before.chained → is_chained (members_at before.chained c) ≡ false
    → (unchain before c ≡ (Err Missing, before)) × (ready before c ≡ (Err Missing, before))

-- and else the channel has no members after it is unchained, and can be fed before
abbrev pub UnchainGrants : Type 0 → Type 0
UnchainGrants M =
    (before : Channels M) (c : ℕ) → c < length before.chained → is_chained (members_at before.chained c) ≡ true
    → (unchain before c ≡ (Ok tt, with_members before c [])) × (ready before c ≡ (Ok tt, before))

-- ---- deletions

-- a number out of range is refused first
abbrev pub DeletionRefusesRange : Type 0 → Type 0
DeletionRefusesRange M = (kinds : Meaning M) (before : Channels M) (i : ℕ) → INSTANCES ≤ i → delete kinds before i ≡ (Err Range, before)

-- then an instance that doesn't live
abbrev pub DeletionRefusesMissing : Type 0 → Type 0
DeletionRefusesMissing M =
    (kinds : Meaning M) (before : Channels M) (i : ℕ) → i < INSTANCES → before.host.living i ≡ None → delete kinds before i ≡ (Err Missing, before)

-- then one that is in a channel
abbrev pub DeletionRefusesBusy : Type 0 → Type 0
DeletionRefusesBusy M =
    (kinds : Meaning M) (before : Channels M) (i : ℕ) (x : Living M) → i < INSTANCES → before.host.living i ≡ Some x
    → is_in_channel before.chained i ≡ true → delete kinds before i ≡ (Err Busy, before)

-- and else the host deletes it
abbrev pub DeletionGrants : Type 0 → Type 0
DeletionGrants M =
    (kinds : Meaning M) (before : Channels M) (i : ℕ) (x : Living M) → i < INSTANCES → before.host.living i ≡ Some x
    → is_in_channel before.chained i ≡ false → delete kinds before i ≡ (Ok tt, on_host before (steps.delete kinds before.host i).1)
