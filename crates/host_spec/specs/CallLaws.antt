-- What the laws of calls say.
use Rattle.std.specs.Prelude.{◌≡◌, ◌<◌, ◌^◌, ℕ, Bool, List, Some}
use Rattle.mem_rec.specs.declared.Space.{Space}
use Rattle.ialg.specs.declared.refusal.Refusal.{Refusal}
use Rattle.ialg.specs.declared.refusal.Refusal.TheVariants.{Room}
use Rattle.ialg.specs.Meaning.{Meaning}
use Rattle.host_spec.specs.State.{State, Living}
use Rattle.host_spec.specs.Calls.{Call, Does, Leads, refusal_of, subject_of}
use Rattle.host_spec.specs.Calls.Call.{Step, Compact}
use Rattle.host_spec.specs.Runs.{Life, Grows, history_of_run, outputs_in, statuses_in}
use Rattle.host_spec.specs.Answers.{answered, all_answered, IsLawfulCall, AreLawful}
use Rattle.host_spec.specs.Laws.{OthersLive, SameHost, OnlyMoves, IsSteps, IsCreation}

-- ---- any call

-- a refused call of a host leaves its state as it was
abbrev pub RefusedHostCallsChangeNothing : Type 0 → Type 0
RefusedHostCallsChangeNothing M =
    (kinds : Meaning M) (before after : State M) (call : Call M) (refusal : Refusal)
    → Does kinds before call after → refusal_of call ≡ Some refusal → after ≡ before

-- only a creation is refused for want of room
abbrev pub OnlyHostCreationsLackRoom : Type 0 → Type 0
OnlyHostCreationsLackRoom M =
    (kinds : Meaning M) (before after : State M) (call : Call M) (space : Space)
    → Does kinds before call after → refusal_of call ≡ Some (Room space) → IsCreation call

-- a call leaves all instances but the one that it is about
abbrev pub CallsKeepOtherInstances : Type 0 → Type 0
CallsKeepOtherInstances M =
    (kinds : Meaning M) (before after : State M) (call : Call M)
    → Does kinds before call after → OthersLive (subject_of call) before after

-- a call leaves the sizes and the poison word of the host
abbrev pub CallsKeepTheHost : Type 0 → Type 0
CallsKeepTheHost M = (kinds : Meaning M) (before after : State M) (call : Call M) → Does kinds before call after → SameHost before after

-- ---- moves

-- a step of a compaction changes the places of blocks and nothing else
abbrev pub StepsOnlyMoveBlocks : Type 0 → Type 0
StepsOnlyMoveBlocks M =
    (kinds : Meaning M) (before after : State M) (space : Space) (moved : Bool)
    → Does kinds before (Step space moved) after → OnlyMoves before after

-- and so does a compaction
abbrev pub CompactionsOnlyMoveBlocks : Type 0 → Type 0
CompactionsOnlyMoveBlocks M =
    (kinds : Meaning M) (before after : State M) (space : Space) (count : ℕ)
    → Does kinds before (Compact space count) after → OnlyMoves before after

-- a compaction is steps, one after the other, until no block moves, where the count of moved words is below 2 ^ 64
abbrev pub CompactionsAreSteps : Type 0 → Type 0
CompactionsAreSteps M = (before : State M) (space : Space) → before.copied < 2 ^ 64 → IsSteps before space

-- ---- the lives of lawful instances

-- after a run of calls an instance has the history that these gave it
abbrev pub LivesHaveTheirHistories : Type 0 → Type 0
LivesHaveTheirHistories M =
    (kinds : Meaning M) (i : ℕ) (x : Living M) (calls : List (Call M)) (life : Life kinds i x calls)
    → life.after.living i ≡ Some (record x { history = history_of_run i x.history calls })

-- what it gives over the run are the outputs of that history, and what it answers the statuses
abbrev pub LivesGoByTheirHistories : Type 0 → Type 0
LivesGoByTheirHistories M =
    (kinds : Meaning M) (i : ℕ) (x : Living M) (calls : List (Call M)) → Life kinds i x calls
    → Grows kinds x (history_of_run i x.history calls) (outputs_in i calls) (statuses_in i calls)

-- in any two hosts instances of one kind and the same parameters give and answer the same, where they were given the same
abbrev pub LivesOfTwoHostsAgree : Type 0 → Type 0
LivesOfTwoHostsAgree M =
    (kinds : Meaning M) (i j : ℕ) (x y : Living M) (xs ys : List (Call M)) → Life kinds i x xs → Life kinds j y ys
    → x.kind ≡ y.kind → x.params ≡ y.params → x.history ≡ y.history
    → history_of_run i x.history xs ≡ history_of_run j y.history ys
    → (outputs_in i xs ≡ outputs_in j ys) × (statuses_in i xs ≡ statuses_in j ys)

-- ---- what is computed

-- where the instance that a call is about is lawful, the call answers and leads to what is computed
abbrev pub LawfulHostCallsAreComputed : Type 0 → Type 0
LawfulHostCallsAreComputed M =
    (kinds : Meaning M) (before after : State M) (call : Call M)
    → Does kinds before call after → IsLawfulCall kinds before call → (call, after) ≡ answered kinds before call

-- where all instances are lawful, a run of calls is answered as it is computed
abbrev pub LawfulRunsAreComputed : Type 0 → Type 0
LawfulRunsAreComputed M =
    (kinds : Meaning M) (before after : State M) (calls : List (Call M))
    → AreLawful kinds before.poison → Leads kinds before calls after → calls ≡ all_answered kinds before calls
