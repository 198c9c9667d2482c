-- What a call keeps.
use Rattle.std.proofs.Common.{◌≡◌, ◌≢◌, ℕ, ℤ, Bool, List, [], ◌∷◌, Option, Some, None, Result, Ok, Err, refl, ap, sym, subst, arith}
use Rattle.mem_rec.specs.declared.MemRec.{MemRec}
use Rattle.mem_rec.specs.declared.Space.{Space}
use Rattle.ialg.specs.declared.refusal.Refusal.{Refusal}
use Rattle.ialg.specs.History.{Ctl}
use Rattle.ialg.specs.Meaning.{Meaning, Status}
use Rattle.host_map.specs.declared.placed.Placed.{Placed}
use Rattle.host_map.specs.Moves.{next_block}
use Rattle.host_map.specs.MemoryMap.{MemoryMap, blocks_in}
use Rattle.host_map.specs.Creation.{created_map}
use Rattle.host_map.specs.Activity.{with_at}
use Rattle.host_spec.specs.State.{Living, State, sharers_of}
use Rattle.host_spec.specs.Steps.{Outcome, unless, newborn, with_room, with_memory, create, activating, controlled, control, given, without_instance, delete, release, stat, moving}
use Rattle.host_spec.specs.Calls.{Call, Does, subject_of}
use Rattle.host_spec.specs.Calls.Call.{Create, Control, Process, Delete, Release, Step, Compact, Stat, Map, Lives, Copied}
use Rattle.host_spec.specs.Laws.{OthersLive, SameHost}

-- the state after a call is that of its outcome
pub after_is : {M A : Type 0} (Holds : State M → Type 0) (answer : A) (after : State M) (outcome : A × State M)
    → (answer, after) ≡ outcome → Holds outcome.1 → Holds after
after_is Holds answer after outcome e holds = subst Holds (sym (ap (λ o. o.1) e)) holds

-- what holds of the state before a call, and of the state after one that is granted
pub unless_holds : {M A : Type 0} (Holds : State M → Type 0) (before : State M) (r : Option Refusal) (outcome : Outcome (State M) A)
    → Holds before → Holds outcome.1 → Holds (unless r before outcome).1
unless_holds Holds before None outcome holds granted = granted
unless_holds Holds before (Some refusal) outcome holds granted = holds

-- the same sizes and poison word, and the same instances but for i
pub record Keeps {M : Type 0} (i : ℕ) (before after : State M) : Type 0 where
  pub host : SameHost before after
  pub others : (j : ℕ) → j ≢ i → after.living j ≡ before.living j

module _ {M : Type 0} (i : ℕ) (before : State M) where
  kept : Keeps i before before
  kept = record { host = record { sizes = refl; poison = refl }; others = λ j apart. refl }

  other : (x : Option (Living M)) (j : ℕ) → j ≢ i → with_at before.living i x j ≡ before.living j
  other x j apart = grind arith

  with_room_keeps : (x : Living M) (table : List MemRec) (placed : Result MemoryMap Space) → Keeps i before (with_room before i x table placed).1
  with_room_keeps x table (Err space) = kept
  with_room_keeps x table (Ok map) = record { host = record { sizes = refl; poison = refl }; others = other (Some x) }

  touching_keeps : (x : Living M) → Keeps i before (activating before i x)
  touching_keeps x = record { host = record { sizes = refl; poison = refl }; others = other (Some x) }

  controlled_keeps : (x : Option (Living M)) (c : Ctl) → Keeps i before (controlled before i x c)
  controlled_keeps None c = kept
  controlled_keeps (Some x) c = touching_keeps _

  given_keeps : (x : Option (Living M)) (block : List ℤ) → Keeps i before (given before i x block)
  given_keeps None block = kept
  given_keeps (Some x) [] = kept
  given_keeps (Some x) (s ∷ block) = touching_keeps _

  pub control_keeps : (c : Ctl) (taken : Bool) (status : Status) → Keeps i before (control before i c taken status).1
  control_keeps c taken status = unless_holds (Keeps i before) before _ _ kept (controlled_keeps (before.living i) c)

  module _ (kinds : Meaning M) where
    with_memory_keeps : (kind : M) (g : ℕ) (p : List ℤ) (table : Option (List MemRec)) → Keeps i before (with_memory kinds before i kind g p table).1
    with_memory_keeps kind g p None = kept
    with_memory_keeps kind g p (Some table) =
        let x = newborn kind g p table in
        with_room_keeps x table (created_map before.sizes before.map i g table (sharers_of kinds before.living x))

    without_keeps : (x : Option (Living M)) → Keeps i before (without_instance kinds before i x)
    without_keeps None = kept
    without_keeps (Some x) = record { host = record { sizes = refl; poison = refl }; others = other None }

    pub create_keeps : (kind : M) (g : ℕ) (p : List ℤ) (table : Option (List MemRec)) → Keeps i before (create kinds before i kind g p table).1
    create_keeps kind g p table = unless_holds (Keeps i before) before _ _ kept (with_memory_keeps kind g p table)

    pub delete_keeps : Keeps i before (delete kinds before i).1
    delete_keeps = unless_holds (Keeps i before) before _ _ kept (without_keeps (before.living i))

-- a call that is about no instance
pub record KeepsAll {M : Type 0} (before after : State M) : Type 0 where
  pub host : SameHost before after
  pub living : after.living ≡ before.living

module _ {M : Type 0} (before : State M) where
  all_kept : KeepsAll before before
  all_kept = record { host = record { sizes = refl; poison = refl }; living = refl }

  pub release_keeps : (g : ℕ) → KeepsAll before (release before g).1
  release_keeps g = unless_holds (KeepsAll before) before _ _ all_kept (record { host = record { sizes = refl; poison = refl }; living = refl })

  pub moving_keeps : (space : Space) (next : Option Placed) → KeepsAll before (moving before space next).1
  moving_keeps space None = all_kept
  moving_keeps space (Some b) = record { host = record { sizes = refl; poison = refl }; living = refl }

  pub stat_keeps : (g : ℕ) → KeepsAll before (stat before g).1
  stat_keeps g = unless_holds (KeepsAll before) before _ _ all_kept all_kept

-- by the instance that a call is about
abbrev pub KeepsBut : {M : Type 0} → Option ℕ → State M → State M → Type 0
KeepsBut None before after = KeepsAll before after
KeepsBut (Some i) before after = Keeps i before after

module _ {M : Type 0} (kinds : Meaning M) (before after : State M) where
  pub keeps_but : (call : Call M) → Does kinds before call after → KeepsBut (subject_of call) before after
  keeps_but (Create i kind g p answer) does = after_is (Keeps i before) answer after _ does.outcome (create_keeps i before kinds kind g p does.table)
  keeps_but (Control i c answer) does = after_is (Keeps i before) answer after _ does.outcome (control_keeps i before c does.taken does.status)
  keeps_but (Process i block out) does = subst (Keeps i before) (sym does.outcome) (given_keeps i before (before.living i) block)
  keeps_but (Delete i answer) does = after_is (Keeps i before) answer after _ does (delete_keeps i before kinds)
  keeps_but (Release g answer) does = after_is (KeepsAll before) answer after _ does (release_keeps before g)
  keeps_but (Step space answer) does = after_is (KeepsAll before) answer after _ does (moving_keeps before space (next_block (blocks_in before.map space)))
  keeps_but (Compact space answer) does = after_is (KeepsAll before) answer after _ does (record { host = record { sizes = refl; poison = refl }; living = refl })
  keeps_but (Stat g answer) does = after_is (KeepsAll before) answer after _ does (stat_keeps before g)
  keeps_but (Map space answer) does = subst (KeepsAll before) (sym does.1) (all_kept before)
  keeps_but (Lives i answer) does = subst (KeepsAll before) (sym does.1) (all_kept before)
  keeps_but (Copied answer) does = subst (KeepsAll before) (sym does.1) (all_kept before)

others_live : {M : Type 0} (subject : Option ℕ) (before after : State M) → KeepsBut subject before after → OthersLive subject before after
others_live None before after keeps j apart = ap (λ living. living j) keeps.living
others_live (Some i) before after keeps j apart = keeps.others j (λ e. apart (ap Some (sym e)))

same_host : {M : Type 0} (subject : Option ℕ) (before after : State M) → KeepsBut subject before after → SameHost before after
same_host None before after keeps = keeps.host
same_host (Some i) before after keeps = keeps.host

module _ {M : Type 0} (kinds : Meaning M) (before after : State M) (call : Call M) (does : Does kinds before call after) where
  pub others_stay : OthersLive (subject_of call) before after
  others_stay = others_live (subject_of call) before after (keeps_but kinds before after call does)

  pub host_stays : SameHost before after
  host_stays = same_host (subject_of call) before after (keeps_but kinds before after call does)
