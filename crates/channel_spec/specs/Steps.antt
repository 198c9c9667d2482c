-- What each call of channels answers, and the state after it.
use Rattle.std.specs.Prelude.{ℕ, not, ◌&&◌, ◌||◌, List, [], ◌∷◌, length, Option, is_some, is_none, Ok, nat_lt, set}
use Rattle.std.specs.List.{list_all, list_any}
use Rattle.ialg.specs.declared.refusal.Refusal.{Refusal}
use Rattle.ialg.specs.declared.refusal.Refusal.TheVariants.{Range, Taken, Missing, Busy}
use Rattle.ialg.specs.Refusals.{first_refusal}
use Rattle.ialg.specs.Meaning.{Meaning}
use Rattle.host_spec.specs.State.{is_instance_number}
use Rattle.host_spec.specs.Steps as steps
use Rattle.host_spec.specs.Steps.{Outcome, unless}
use Rattle.channel_spec.specs.Channels.{Channels, members_at, is_chained, is_in_channel, has_repeat}

module _ {M : Type 0} (before : Channels M) where
  abbrev pub chain : ℕ → List ℕ → Outcome (Channels M) (Unit {0})
  chain c is =
      unless (first_refusal (
      (not (nat_lt c (length before.chained) && list_all is_instance_number is), Range) ∷
      (is_chained (members_at before.chained c), Taken) ∷
      (not (list_all (λ i. is_some (before.host.living i)) is), Missing) ∷
      (list_any (is_in_channel before.chained) is || has_repeat is, Busy) ∷ []))
      before (Ok tt, record before { chained = set before.chained c is })

  -- the channel must have members to be fed or unchained
  abbrev pub channel_refusal : ℕ → Option Refusal
  channel_refusal c = first_refusal ((not (nat_lt c (length before.chained)), Range) ∷ (not (is_chained (members_at before.chained c)), Missing) ∷ [])

  -- whether the channel can be fed
  abbrev pub ready : ℕ → Outcome (Channels M) (Unit {0})
  ready c = unless (channel_refusal c) before (Ok tt, before)

  abbrev pub unchain : ℕ → Outcome (Channels M) (Unit {0})
  unchain c = unless (channel_refusal c) before (Ok tt, record before { chained = set before.chained c [] })

-- the host deletes it. A member of a channel isn't deleted
abbrev pub delete : {M : Type 0} → Meaning M → Channels M → ℕ → Outcome (Channels M) (Unit {0})
delete kinds before i =
    unless (first_refusal ((not (is_instance_number i), Range) ∷ (is_none (before.host.living i), Missing) ∷ (is_in_channel before.chained i, Busy) ∷ []))
    before (Ok tt, record before { host = (steps.delete kinds before.host i).1 })
