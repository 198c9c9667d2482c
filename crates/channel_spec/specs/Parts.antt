-- Parts of what the steps of channels say, for the laws of outcomes, and for private clauses and proofs.
use Rattle.std.specs.Prelude.{ℕ, ℤ, ◌≡◌, Bool, not, ◌&&◌, ◌||◌, List, [], ◌∷◌, length, Option, is_some, is_none, nat_lt, set}
use Rattle.std.specs.List.{list_all, list_any}
use Rattle.ialg.specs.declared.refusal.Refusal.{Refusal}
use Rattle.ialg.specs.declared.refusal.Refusal.TheVariants.{Range, Taken, Missing, Busy}
use Rattle.ialg.specs.Refusals.{first_refusal}
use Rattle.ialg.specs.Meaning.{Meaning}
use Rattle.host_spec.specs.State.{State, is_instance_number}
use Rattle.host_spec.specs.Calls.{Processes}
use Rattle.channel_spec.specs.Channels.{Channels, members_at, is_chained, is_in_channel, has_repeat}

-- the instance lives in the host
abbrev pub lives : {M : Type 0} → State M → ℕ → Bool
lives host i = is_some (host.living i)

abbrev pub all_live : {M : Type 0} → State M → List ℕ → Bool
all_live host is = list_all (lives host) is

module _ {M : Type 0} (kinds : Meaning M) where
  -- the block passes through the members in order, each taking what the one before it gave. An empty block touches no further member
  abbrev pub Passes : State M → List ℕ → List ℤ → List ℤ → State M → Type 0
  Passes before [] block out after = (out ≡ block) × (after ≡ before)
  Passes before (i ∷ is) [] out after = (out ≡ []) × (after ≡ before)
  Passes before (i ∷ is) (s ∷ block) out after =
      (given : List ℤ) × (between : State M) × Processes kinds before i (s ∷ block) given between × Passes between is given out after

module _ {M : Type 0} (before : Channels M) where
  abbrev pub is_channel_number : ℕ → Bool
  is_channel_number c = nat_lt c (length before.chained)

  -- the channel has these members, or none
  abbrev pub with_members : ℕ → List ℕ → Channels M
  with_members c is = record before { chained = set before.chained c is }

  -- the host has come to this state
  abbrev pub on_host : State M → Channels M
  on_host host = record before { host = host }

  abbrev pub chain_refusal : ℕ → List ℕ → Option Refusal
  chain_refusal c is =
      first_refusal (
      (not (is_channel_number c && list_all is_instance_number is), Range) ∷
      (is_chained (members_at before.chained c), Taken) ∷
      (not (all_live before.host is), Missing) ∷
      (list_any (is_in_channel before.chained) is || has_repeat is, Busy) ∷ [])

  abbrev pub delete_refusal : ℕ → Option Refusal
  delete_refusal i =
      first_refusal (
      (not (is_instance_number i), Range) ∷ (is_none (before.host.living i), Missing) ∷ (is_in_channel before.chained i, Busy) ∷ [])
