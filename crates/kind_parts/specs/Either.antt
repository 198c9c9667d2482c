-- A kind of either of two sets: what it means, what its words keep, and its name.
use Rattle.std.specs.Prelude.{ℕ, ℤ, Bool, false, List, Option, Some, None}
use Rattle.mem_rec.specs.declared.MemRec.{MemRec}
use Rattle.ialg.specs.Log.{Log}
use Rattle.ialg.specs.Meaning.{Meaning}
use Rattle.kind_parts.specs.declared.either.Or.{Or}
use Rattle.kind_parts.specs.declared.either.Or.TheVariants.{First, Second}

-- what f tells of a kind of the first set, and g of one of the second
abbrev pub told : {A B T : Type 0} → (A → T) → (B → T) → Or A B → T
told f g (First a) = f a
told f g (Second b) = g b

-- kinds of two sets are never one
abbrev pub same_kind : {A B : Type 0} → (A → A → Bool) → (B → B → Bool) → Or A B → Or A B → Bool
same_kind f g (First a) (First b) = f a b
same_kind f g (First a) (Second b) = false
same_kind f g (Second a) (First b) = false
same_kind f g (Second a) (Second b) = g a b

-- a kind means what its own set says
abbrev pub either_means : {A B : Type 0} → Meaning A → Meaning B → Meaning (Or A B)
either_means a b = record {
  same = same_kind a.same b.same;
  table = told a.table b.table;
  gives = told a.gives b.gives;
  accepts = told a.accepts b.accepts;
  got = told a.got b.got;
  declares = told a.declares b.declares;
  lawful = told a.lawful b.lawful;
}

-- its words refine a history as its own set says
abbrev pub either_refines : {A B : Type 0} → (A → List ℤ → List MemRec → List (List ℤ) → Log → Type 0)
    → (B → List ℤ → List MemRec → List (List ℤ) → Log → Type 0) → Or A B → List ℤ → List MemRec → List (List ℤ) → Log → Type 0
either_refines f g (First a) = f a
either_refines f g (Second b) = g b

-- a kind that has been found in the first set, and else what is found in the second
abbrev pub found : {A B : Type 0} → Option A → Option B → Option (Or A B)
found (Some a) b = Some (First a)
found None (Some b) = Some (Second b)
found None None = None

-- a name is looked for in the first set, and then in the second
abbrev pub either_named : {A B : Type 0} → (List ℕ → Option A) → (List ℕ → Option B) → List ℕ → Option (Or A B)
either_named f g name = found (f name) (g name)
