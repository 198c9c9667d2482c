-- Which instances share the block of a write-once record.
use Rattle.std.specs.Prelude.{ℕ, ◌≡◌, Bool, List, Option, Some, None}
use Rattle.lifecycle.specs.declared.instance.Instance.{Instance}
use Rattle.host_table.specs.declared.member.Member.{Member}
use Rattle.host_shared.specs.declared.locations.Locations.{Locations}
use Rattle.host_shared.specs.declared.joining.Sharers.{Sharers}
use Rattle.host_shared.specs.Joining.{sharer_at}
use Rattle.host_shared.specs.Locations.{owner_of}
use Rattle.host_table.specs.Table.{slot_at, instance_of, AreAlike}
use Rattle.host_map.specs.Sharers.{Asked, asked, sharer_of}
use Rattle.ialg.specs.Laws.{Laws}

-- what stands in a slot, as it was asked for
abbrev pub asked_by : {M : Type 0} → Option (Member M) → Option (Asked M)
asked_by None = None
asked_by (Some m) = Some (asked (instance_of m.inst).kind (instance_of m.inst).params.items (instance_of m.inst).table)

-- the least instance in the slots that shares record k of what is asked for, by the laws of the kinds
abbrev pub sharer_in : {M : Type 0} → Laws M → List (Option (Member M)) → Asked M → ℕ → Option ℕ
sharer_in laws instances x k = sharer_of laws.meaning.same (λ j. asked_by (slot_at instances j)) x k

-- these are the sharers of what is asked for, among the instances in the slots
abbrev pub AreLeastSharers : {M : Type 0} → (M → M → Bool) → List (Option (Member M)) → Asked M → Sharers → Type 0
AreLeastSharers same instances x t = (k : ℕ) → sharer_at t k ≡ sharer_of same (λ j. asked_by (slot_at instances j)) x k

-- instances that are alike in a record have it with one instance
abbrev pub AreTogether : {M : Type 0} → List (Option (Member M)) → List Locations → Type 0
AreTogether {M} instances sharing = (i j k : ℕ) (m n : Member M) → slot_at instances i ≡ Some m → slot_at instances j ≡ Some n
    → AreAlike k (instance_of m.inst) (instance_of n.inst) → owner_of sharing i k ≡ owner_of sharing j k

-- an instance, as it was asked for
abbrev pub as_asked : {M : Type 0} → Instance M → Asked M
as_asked s = asked s.kind s.params.items s.table
