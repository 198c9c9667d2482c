-- Which calls of IALG a call of a host makes: of each instance, in which order, how often.
use Rattle.std.specs.Prelude.{ℕ, ℤ, Bool, false, ◌||◌, ◌&&◌, List, [], ◌∷◌, ◌++◌, Option, Some, None, nat_eq, if◌then◌else◌, Ok}
use Rattle.std.specs.Option.{option_eq}
use Rattle.ialg.specs.Log.{Called, Init, Activate, Process, Command, Deactivate, Moved}
use Rattle.ialg.specs.Meaning.{Meaning}
use Rattle.host_map.specs.declared.placed.Owner.{Owner}
use Rattle.host_map.specs.declared.placed.Owner.TheVariants.{Record, Scratch}
use Rattle.host_map.specs.declared.placed.Placed.{Placed}
use Rattle.host_map.specs.MemoryMap.{blocks_in}
use Rattle.host_map.specs.Moves.{next_block, unpacked_behind}
use Rattle.host_map.specs.Creation.{replaces}
use Rattle.host_spec.specs.State.{Living, State, share, is_of_group}
use Rattle.host_spec.specs.Calls as host
use Rattle.host_spec.specs.Calls.{Call}

-- ---- the calls that each instance gets, the newest first

-- the active member of a group is deactivated, if there is one
abbrev pub rest_calls : Option ℕ → ℕ → List Called
rest_calls active j = if option_eq nat_eq active (Some j) then Deactivate ∷ [] else []

-- instance i becomes the active member, unless it is: the one that was is deactivated before
abbrev pub turn_calls : ℕ → Option ℕ → ℕ → List Called
turn_calls i active j =
    if option_eq nat_eq active (Some i) then [] else if nat_eq j i then Activate ∷ [] else rest_calls active j

-- and then gets this call
abbrev pub call_of_active : Called → ℕ → Option ℕ → ℕ → List Called
call_of_active call i active j = if nat_eq j i then call ∷ turn_calls i active j else turn_calls i active j

module _ {M : Type 0} (kinds : Meaning M) (before : State M) where
  -- the active member of the group of an instance
  abbrev pub active_beside : Option (Living M) → Option ℕ
  active_beside None = None
  active_beside (Some x) = (before.activity x.group).active

  -- a new instance starts last. Where it replaces a block of its group, the active member is deactivated, and then each member is told
  abbrev pub creation_calls : ℕ → Option (Living M) → ℕ → List Called
  creation_calls i None j = []
  creation_calls i (Some x) j =
      if nat_eq j i then Init ∷ []
      else if replaces before.map x.group x.table && is_of_group x.group (before.living j) then Moved ∷ rest_calls (before.activity x.group).active j
      else []

  -- whether record k of an instance is a record of the other one too
  abbrev pub shares_with : ℕ → Option (Living M) → Option (Living M) → Bool
  shares_with k None y = false
  shares_with k (Some x) y = share kinds k x y

  -- whether instance j has words in a block: in its own record, in one that it shares with the owner, or in its group's block
  abbrev pub has_words_in : Owner → ℕ → Bool
  has_words_in (Record i k) j = nat_eq j i || shares_with k (before.living i) (before.living j)
  has_words_in (Scratch g) j = is_of_group g (before.living j)

  -- a block was moved: whoever has words in it is told, once, and nobody else
  abbrev pub move_calls : Placed → ℕ → List Called
  move_calls b j = if has_words_in b.owner j then Moved ∷ [] else []

  -- several blocks were moved, one after the other
  abbrev pub moves_calls : List Placed → ℕ → List Called
  moves_calls [] j = []
  moves_calls (b ∷ blocks) j = moves_calls blocks j ++ move_calls b j

  abbrev pub step_calls : Option Placed → ℕ → List Called
  step_calls None j = []
  step_calls (Some b) j = move_calls b j

  -- an empty block of samples calls nobody
  abbrev pub block_calls : ℕ → List ℤ → ℕ → List Called
  block_calls i [] j = []
  block_calls i (x ∷ xs) j = call_of_active Process i (active_beside (before.living i)) j

  -- an instance that ends is deactivated, where it is active. (algFree, which is asked then, can write nothing)
  abbrev pub end_calls : ℕ → ℕ → List Called
  end_calls i j = if nat_eq j i then rest_calls (active_beside (before.living i)) j else []

  -- the calls that instance j gets in this call of the host, after which the state is this. A refused call calls nobody
  abbrev pub calls_made : Call M → State M → ℕ → List Called
  calls_made (host.Create i kind g p (Ok done)) after j = creation_calls i (after.living i) j
  calls_made (host.Control i c (Ok status)) after j = call_of_active Command i (active_beside (before.living i)) j
  calls_made (host.Process i block out) after j = block_calls i block j
  calls_made (host.Delete i (Ok done)) after j = end_calls i j
  calls_made (host.Release g (Ok was)) after j = rest_calls (before.activity g).active j
  calls_made (host.Step space moved) after j = step_calls (next_block (blocks_in before.map space)) j
  calls_made (host.Compact space count) after j = moves_calls (unpacked_behind 0 (blocks_in before.map space)) j
  calls_made _ after j = []
