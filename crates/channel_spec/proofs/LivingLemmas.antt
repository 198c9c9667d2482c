-- Who lives after a call.
use Rattle.std.proofs.Common.{◌≡◌, ℕ, ℤ, Bool, true, false, List, [], ◌∷◌, Option, Some, None, Result, Ok, Err, refl, sym, subst, nat_eq}
use Rattle.host_map.specs.Activity.{with_at}
use Rattle.std.specs.Prelude.{is_some, if◌then◌else◌}
use Rattle.mem_rec.specs.declared.MemRec.{MemRec}
use Rattle.mem_rec.specs.declared.Space.{Space}
use Rattle.ialg.specs.History.{Ctl}
use Rattle.ialg.specs.Meaning.{Meaning}
use Rattle.host_map.specs.declared.placed.Placed.{Placed}
use Rattle.host_map.specs.Moves.{next_block}
use Rattle.host_map.specs.MemoryMap.{MemoryMap, blocks_in}
use Rattle.host_map.specs.Creation.{created_map}
use Rattle.host_spec.specs.State.{Living, State, sharers_of}
use Rattle.host_spec.specs.Steps.{newborn, with_room, with_memory, controlled, given, moving}
use Rattle.host_spec.specs.Calls as host_calls
use Rattle.host_spec.specs.Calls.{Processes}
use Rattle.host_spec.specs.Calls.Call.{Create, Control, Process, Delete, Release, Step, Compact, Stat, Map, Lives, Copied}
use Rattle.host_spec.proofs.CallLemmas.{after_is, unless_holds}
use Rattle.channel_spec.specs.Parts.{Passes, lives}
use Rattle.channel_spec.specs.Calls.{IsPassedOn}

-- who lived lives still
abbrev pub StillLive : {M : Type 0} → State M → State M → Type 0
StillLive before after = (j : ℕ) → lives before j ≡ true → lives after j ≡ true

if_some : {A : Type 0} (b : Bool) (x y : Option A) → is_some x ≡ true → is_some y ≡ true → is_some (if b then x else y) ≡ true
if_some true x y e f = e
if_some false x y e f = f

module _ {M : Type 0} (before : State M) (i : ℕ) where
  with_one : (x : Living M) (j : ℕ) → lives before j ≡ true → is_some (with_at before.living i (Some x) j) ≡ true
  with_one x j e = if_some (nat_eq j i) (Some x) (before.living j) refl e

  room_live : (x : Living M) (table : List MemRec) (placed : Result MemoryMap Space) → StillLive before (with_room before i x table placed).1
  room_live x table (Err space) = λ j e. e
  room_live x table (Ok map) = with_one x

  memory_live : (kinds : Meaning M) (kind : M) (g : ℕ) (p : List ℤ) (table : Option (List MemRec)) → StillLive before (with_memory kinds before i kind g p table).1
  memory_live kinds kind g p None = λ j e. e
  memory_live kinds kind g p (Some table) =
      let x = newborn kind g p table in room_live x table (created_map before.sizes before.map i g table (sharers_of kinds before.living x))

  controlled_live : (x : Option (Living M)) (c : Ctl) → StillLive before (controlled before i x c)
  controlled_live None c = λ j e. e
  controlled_live (Some x) c = with_one _

  given_live : (x : Option (Living M)) (block : List ℤ) → StillLive before (given before i x block)
  given_live None block = λ j e. e
  given_live (Some x) [] = λ j e. e
  given_live (Some x) (s ∷ block) = with_one _

module _ {M : Type 0} (before : State M) where
  moving_live : (space : Space) (next : Option Placed) → StillLive before (moving before space next).1
  moving_live space None = λ j e. e
  moving_live space (Some b) = λ j e. e

module _ {M : Type 0} (kinds : Meaning M) where
  pub passed_on_live : (before after : State M) (call : host_calls.Call M) → IsPassedOn call → host_calls.Does kinds before call after → StillLive before after
  passed_on_live before after (Create i kind g p answer) on does =
      after_is (StillLive before) answer after _ does.outcome
      (unless_holds (StillLive before) before _ _ (λ j e. e) (memory_live before i kinds kind g p does.table))
  passed_on_live before after (Control i c answer) on does =
      after_is (StillLive before) answer after _ does.outcome
      (unless_holds (StillLive before) before _ _ (λ j e. e) (controlled_live before i (before.living i) c))
  passed_on_live before after (Process i block out) on does = absurd on
  passed_on_live before after (Delete i answer) on does = absurd on
  passed_on_live before after (Release g answer) on does =
      after_is (StillLive before) answer after _ does (unless_holds (StillLive before) before _ _ (λ j e. e) (λ j e. e))
  passed_on_live before after (Step space answer) on does =
      after_is (StillLive before) answer after _ does (moving_live before space (next_block (blocks_in before.map space)))
  passed_on_live before after (Compact space answer) on does = after_is (StillLive before) answer after _ does (λ j e. e)
  passed_on_live before after (Stat g answer) on does =
      after_is (StillLive before) answer after _ does (unless_holds (StillLive before) before _ _ (λ j e. e) (λ j e. e))
  passed_on_live before after (Map space answer) on does = subst (StillLive before) (sym does.1) (λ j e. e)
  passed_on_live before after (Lives i answer) on does = subst (StillLive before) (sym does.1) (λ j e. e)
  passed_on_live before after (Copied answer) on does = subst (StillLive before) (sym does.1) (λ j e. e)

  processes_live : (before after : State M) (i : ℕ) (block out : List ℤ) → Processes kinds before i block out after → StillLive before after
  processes_live before after i block out does = subst (StillLive before) (sym does.outcome) (given_live before i (before.living i) block)

  pub passes_live : (is : List ℕ) (before after : State M) (block out : List ℤ) → Passes kinds before is block out after → StillLive before after
  passes_live [] before after block out passes = subst (StillLive before) (sym passes.1) (λ j e. e)
  passes_live (i ∷ is) before after [] out passes = subst (StillLive before) (sym passes.1) (λ j e. e)
  passes_live (i ∷ is) before after (s ∷ block) out passes =
      λ j e. passes_live is passes.1 after passes.0 out passes.3 j (processes_live before passes.1 i (s ∷ block) passes.0 passes.2 j e)
