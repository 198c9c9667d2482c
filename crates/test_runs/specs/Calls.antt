-- How the worked rows write calls, blocks and answers.
use Rattle.std.specs.Prelude.{◌≡◌, ℕ, ℤ, List, Option, Some, None, Result, Ok, Err}
use Rattle.ialg.specs.declared.refusal.Refusal.{Refusal}
use Rattle.ialg.specs.Meaning.{Meaning}
use Rattle.host_map.specs.declared.placed.Owner.TheVariants.{Record, Scratch}
use Rattle.host_map.specs.declared.placed.Placed.{Placed}
use Rattle.host_map.specs.declared.parts.Sizes.{Sizes}
use Rattle.host_map.specs.Activity.{Activity}
use Rattle.host_spec.specs.State.{new_state}
use Rattle.host_spec.specs.Calls.{Call}
use Rattle.host_spec.specs.Answers.{all_answered}

abbrev pub full : Sizes
full = record { daram = 65536; saram = 65536; external = 65536 }

abbrev pub with_daram : ℕ → Sizes
with_daram words = record full { daram = words }

abbrev pub done : Result (Unit {0}) Refusal
done = Ok tt

abbrev pub refused : {A : Type 0} → Refusal → Result A Refusal
refused refusal = Err refusal

-- a member is active, or none is, after so many activations
abbrev pub active : ℕ → ℕ → Result Activity Refusal
active i count = Ok (record { active = Some i; count = count })

abbrev pub resting : ℕ → Result Activity Refusal
resting count = Ok (record { active = None; count = count })

-- the block of record k of instance i, and that of group g
abbrev pub record_block : ℕ → ℕ → ℕ → ℕ → ℕ → Placed
record_block i k place size align = record { owner = Record i k; place = place; size = size; align = align }

abbrev pub group_block : ℕ → ℕ → ℕ → ℕ → Placed
group_block g place size align = record { owner = Scratch g; place = place; size = size; align = align }

-- a new host of these sizes answers the calls so, whatever its poison word is
abbrev pub Answers : {M : Type 0} → Meaning M → Sizes → List (Call M) → Type 0
Answers kinds sizes calls = (poison : Option ℤ) → all_answered kinds (new_state sizes poison) calls ≡ calls
