-- The active member of a group, and how often one was activated.
use Rattle.std.specs.Prelude.{ℕ, Option, Some, None, nat_eq, if◌then◌else◌, min, ◌+◌, ◌-◌, ◌^◌}
use Rattle.std.specs.Option.{option_eq}

-- the active member of a group, and how often one was activated
pub record Activity : Type 0 where
  pub active : Option ℕ
  pub count : ℕ

-- with no active member
abbrev pub deactivated : Activity → Activity
deactivated a = record a { active = None }

-- with i as the active member, which counts unless it is so already. The count stays at the greatest number
abbrev pub activated : ℕ → Activity → Activity
activated i a = if option_eq nat_eq a.active (Some i) then a else record { active = Some i; count = min (a.count + 1) (2 ^ 32 - 1) }

-- with no active member where it was i
abbrev pub without_active : ℕ → Activity → Activity
without_active i a = if option_eq nat_eq a.active (Some i) then deactivated a else a

-- a value for each number, with another one at n
abbrev pub with_at : {A : Type 0} → (ℕ → A) → ℕ → A → ℕ → A
with_at all n x k = if nat_eq k n then x else all k

-- ---- what contracts of code say

abbrev pub never_activated : Activity
never_activated = record { active = None; count = 0 }

-- the count of activations, once the member was set
abbrev pub count_after : ℕ → Option ℕ → ℕ
count_after n None = n
count_after n (Some m) = min (n + 1) (2 ^ 32 - 1)

-- with i as the active member from now on, which counts
abbrev pub newly_active : ℕ → Activity → Activity
newly_active i a = record { active = Some i; count = count_after a.count (Some i) }
