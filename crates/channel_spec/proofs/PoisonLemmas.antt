-- No answer that is computed tells of the poison word.
use Rattle.std.proofs.Common.{◌≡◌, ℕ, ℤ, Bool, List, [], ◌∷◌, Option, Some, None, Result, Ok, Err, refl, ap, sym, ◌∙◌, subst}
use Rattle.mem_rec.specs.declared.MemRec.{MemRec}
use Rattle.mem_rec.specs.declared.Space.{Space}
use Rattle.ialg.specs.declared.refusal.Refusal.{Refusal}
use Rattle.ialg.specs.History.{Ctl}
use Rattle.ialg.specs.Meaning.{Meaning, Status}
use Rattle.host_map.specs.declared.placed.Placed.{Placed}
use Rattle.host_map.specs.Moves.{next_block}
use Rattle.host_map.specs.MemoryMap.{MemoryMap, blocks_in}
use Rattle.host_map.specs.Creation.{created_map}
use Rattle.host_spec.specs.State.{Living, State, sharers_of}
use Rattle.host_spec.specs.Steps as steps
use Rattle.host_spec.specs.Steps.{unless, newborn, with_room, with_memory, create_refusal, controlled, control_refusal, given, processed, without_instance, instance_refusal, group_refusal, moving}
use Rattle.host_spec.specs.Calls as host_calls
use Rattle.host_spec.specs.Calls.Call.{Create, Control, Process, Delete, Release, Step, Compact, Stat, Map, Lives, Copied}
use Rattle.host_spec.specs.Answers as host_answers
use Rattle.host_spec.specs.Answers.{accepted, status_at, output_at}
use Rattle.channel_spec.specs.Channels.{Channels, members_at}
use Rattle.channel_spec.specs.Steps.{chain, channel_refusal, unchain, delete, ready}
use Rattle.channel_spec.specs.Parts.{chain_refusal, delete_refusal, on_host}
use Rattle.channel_spec.specs.Calls.{Call}
use Rattle.channel_spec.specs.Calls.Call.{Chain, Unchain, Remove, Ready, Feed, OfHost}
use Rattle.channel_spec.specs.Answers.{passed, answered}
use Rattle.channel_spec.specs.Laws.{with_poison}

module _ {M : Type 0} (poison : Option ℤ) where
  -- a host of this poison word
  abbrev of : State M → State M
  of before = record before { poison = poison }

  -- the same outcome, in a host of this poison word
  abbrev Same : {A : Type 0} → A × State M → A × State M → Type 0
  Same {A} new old = ◌≡◌ {A = A × State M} new (old.0, of old.1)

  module _ (before : State M) where
    unless_same : {A : Type 0} (r : Option Refusal) (new old : steps.Outcome (State M) A) → Same new old → Same (unless r (of before) new) (unless r before old)
    unless_same None new old e = e
    unless_same (Some refusal) new old e = refl

    room_same : (i : ℕ) (x : Living M) (table : List MemRec) (placed : Result MemoryMap Space) → Same (with_room (of before) i x table placed) (with_room before i x table placed)
    room_same i x table (Err space) = refl
    room_same i x table (Ok map) = refl

    memory_same : (kinds : Meaning M) (i : ℕ) (kind : M) (g : ℕ) (p : List ℤ) (table : Option (List MemRec))
        → Same (with_memory kinds (of before) i kind g p table) (with_memory kinds before i kind g p table)
    memory_same kinds i kind g p None = refl
    memory_same kinds i kind g p (Some table) =
        let x = newborn kind g p table in room_same i x table (created_map before.sizes before.map i g table (sharers_of kinds before.living x))

    controlled_same : (i : ℕ) (x : Option (Living M)) (c : Ctl) → controlled (of before) i x c ≡ of (controlled before i x c)
    controlled_same i None c = refl
    controlled_same i (Some x) c = refl

    given_same : (i : ℕ) (x : Option (Living M)) (block : List ℤ) → given (of before) i x block ≡ of (given before i x block)
    given_same i None block = refl
    given_same i (Some x) [] = refl
    given_same i (Some x) (s ∷ block) = refl

    without_same : (kinds : Meaning M) (i : ℕ) (x : Option (Living M)) → without_instance kinds (of before) i x ≡ of (without_instance kinds before i x)
    without_same kinds i None = refl
    without_same kinds i (Some x) = refl

    moving_same : (space : Space) (next : Option Placed) → Same (moving (of before) space next) (moving before space next)
    moving_same space None = refl
    moving_same space (Some b) = refl

    -- an answer that is the same, and the state after it
    answer_same : {A : Type 0} (answer : A) (new old : State M) → new ≡ of old → Same (answer, new) (answer, old)
    answer_same answer new old e = subst (λ s. Same (answer, new) (answer, old)) e (subst (λ s. ◌≡◌ {A = _ × State M} (answer, new) (answer, s)) e refl)

    pub delete_same : (kinds : Meaning M) (i : ℕ) → Same (steps.delete kinds (of before) i) (steps.delete kinds before i)
    delete_same kinds i =
        unless_same (instance_refusal before i) _ _
        (answer_same (Ok tt) (without_instance kinds (of before) i (before.living i)) (without_instance kinds before i (before.living i)) (without_same kinds i (before.living i)))

    call_same : {A : Type 0} (call : A → host_calls.Call M) (new old : A × State M) → Same new old
        → ◌≡◌ {A = host_calls.Call M × State M} (call new.0, new.1) (call old.0, of old.1)
    call_same call new old e = subst (λ o. ◌≡◌ {A = host_calls.Call M × State M} (call new.0, new.1) (call o.0, o.1)) e refl

    module _ (kinds : Meaning M) where
      create_same : (i : ℕ) (kind : M) (g : ℕ) (p : List ℤ) → Same (steps.create kinds (of before) i kind g p (kinds.table kind p)) (steps.create kinds before i kind g p (kinds.table kind p))
      create_same i kind g p = unless_same (create_refusal before i g) _ _ (memory_same kinds i kind g p (kinds.table kind p))

      control_same : (i : ℕ) (c : Ctl) (taken : Bool) (status : Status) → Same (steps.control (of before) i c taken status) (steps.control before i c taken status)
      control_same i c taken status =
          unless_same (control_refusal before i taken) _ _
          (answer_same (Ok status) (controlled (of before) i (before.living i) c) (controlled before i (before.living i) c) (controlled_same i (before.living i) c))

      pub host_same : (call : host_calls.Call M) → Same (host_answers.answered kinds (of before) call) (host_answers.answered kinds before call)
      host_same (Create i kind g p a) = call_same (λ o. Create i kind g p o) _ (steps.create kinds before i kind g p (kinds.table kind p)) (create_same i kind g p)
      host_same (Control i c a) =
          call_same (λ o. Control i c o) _ (steps.control before i c (accepted kinds (before.living i) c) (status_at kinds (before.living i) c))
          (control_same i c (accepted kinds (before.living i) c) (status_at kinds (before.living i) c))
      host_same (Process i block out) =
          answer_same (Process i block (output_at kinds (before.living i) block)) (processed (of before) i block) (processed before i block) (given_same i (before.living i) block)
      host_same (Delete i a) = call_same (λ o. Delete i o) _ (steps.delete kinds before i) (delete_same kinds i)
      host_same (Release g a) = call_same (λ o. Release g o) _ (steps.release before g) (unless_same (group_refusal before g) _ _ refl)
      host_same (Step space a) = call_same (λ o. Step space o) _ (steps.step before space) (moving_same space (next_block (blocks_in before.map space)))
      host_same (Compact space a) = refl
      host_same (Stat g a) = call_same (λ o. Stat g o) _ (steps.stat before g) (unless_same (group_refusal before g) _ _ refl)
      host_same (Map space a) = refl
      host_same (Lives i a) = refl
      host_same (Copied a) = refl

  passed_same : (kinds : Meaning M) (is : List ℕ) (before : State M) (block : List ℤ) → Same (passed kinds (of before) is block) (passed kinds before is block)
  passed_same kinds [] before block = refl
  passed_same kinds (i ∷ is) before [] = refl
  passed_same kinds (i ∷ is) before (s ∷ block) =
      ap (λ host. passed kinds host is (output_at kinds (before.living i) (s ∷ block))) (given_same before i (before.living i) (s ∷ block))
      ∙ passed_same kinds is (processed before i (s ∷ block)) (output_at kinds (before.living i) (s ∷ block))

  -- ---- channels

  abbrev SameChannels : {A : Type 0} → A × Channels M → A × Channels M → Type 0
  SameChannels {A} new old = ◌≡◌ {A = A × Channels M} new (old.0, with_poison poison old.1)

  module _ (before : Channels M) where
    channels_unless : {A : Type 0} (r : Option Refusal) (new old : steps.Outcome (Channels M) A) → SameChannels new old
        → SameChannels (unless r (with_poison poison before) new) (unless r before old)
    channels_unless None new old e = e
    channels_unless (Some refusal) new old e = refl

    channels_call : {A : Type 0} (call : A → Call M) (new old : A × Channels M) → SameChannels new old
        → ◌≡◌ {A = Call M × Channels M} (call new.0, new.1) (call old.0, with_poison poison old.1)
    channels_call call new old e = subst (λ o. ◌≡◌ {A = Call M × Channels M} (call new.0, new.1) (call o.0, o.1)) e refl

    -- the host is called
    on_host_same : {A : Type 0} (call : A → Call M) (new old : A × State M) → Same new old
        → ◌≡◌ {A = Call M × Channels M} (call new.0, on_host before new.1) (call old.0, on_host before (of old.1))
    on_host_same call new old e = subst (λ o. ◌≡◌ {A = Call M × Channels M} (call new.0, on_host before new.1) (call o.0, on_host before o.1)) e refl

    removed_same : (kinds : Meaning M) (i : ℕ) → SameChannels (delete kinds (with_poison poison before) i) (delete kinds before i)
    removed_same kinds i =
        channels_unless (delete_refusal before i) _ _
        (subst (λ host. SameChannels {A = Result (Unit {0}) Refusal} (Ok tt, on_host before host) (Ok tt, on_host before (steps.delete kinds before.host i).1)) (sym (ap (λ o. o.1) (delete_same before.host kinds i))) refl)

    pub channels_same : (kinds : Meaning M) (call : Call M) → SameChannels (answered kinds (with_poison poison before) call) (answered kinds before call)
    channels_same kinds (Chain c is a) = channels_call (λ o. Chain c is o) _ (chain before c is) (channels_unless (chain_refusal before c is) _ _ refl)
    channels_same kinds (Unchain c a) = channels_call (λ o. Unchain c o) _ (unchain before c) (channels_unless (channel_refusal before c) _ _ refl)
    channels_same kinds (Remove i a) = channels_call (λ o. Remove i o) _ (delete kinds before i) (removed_same kinds i)
    channels_same kinds (Ready c a) = channels_call (λ o. Ready c o) _ (ready before c) (channels_unless (channel_refusal before c) _ _ refl)
    channels_same kinds (Feed c block out) = on_host_same (λ o. Feed c block o) _ (passed kinds before.host (members_at before.chained c) block) (passed_same kinds (members_at before.chained c) before.host block)
    channels_same kinds (OfHost call) = on_host_same (λ o. OfHost o) _ (host_answers.answered kinds before.host call) (host_same before.host kinds call)
