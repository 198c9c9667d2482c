-- What the laws of whole runs say.
use Rattle.std.specs.Prelude.{◌≡◌, ◌≤◌, ◌↔◌, ◌∷◌, ℕ, ℤ, Bool, true, [], IsTrue, List, None, Option, Some, Result, Ok, Err, drop, length, take}
use Rattle.mem_rec.specs.declared.Space.{Space}
use Rattle.ialg.specs.declared.refusal.Refusal.{Refusal}
use Rattle.ialg.specs.declared.refusal.Refusal.TheVariants.{Room}
use Rattle.ialg.specs.Meaning.{Meaning}
use Rattle.host_spec.specs.State.{State}
use Rattle.host_spec.specs.Choices.{tells_memory}
use Rattle.host_spec.specs.Calls as host_calls
use Rattle.host_spec.specs.Calls.Call.{Create, Process}
use Rattle.host_spec.specs.Runs.{history_of_run, outputs_in, statuses_in}
use Rattle.channel_spec.specs.Channels.{Channels}
use Rattle.channel_spec.specs.Calls.{Call, Does, refusal_of}
use Rattle.channel_spec.specs.Calls.Call.{Feed, Ready}
use Rattle.voice_script.specs.Served.{Answer, LineAnswer, LinesAnswer, Run, refusals}
use Rattle.voice_script.specs.Widths.{Widths}
use Rattle.console_spec.specs.Console.{console_machine}
use Rattle.console_spec.specs.HostRuns.{AsHostCalls, Leads, RunsOnHost}
use Rattle.console_spec.specs.Births.{Born, GoesByItsHistory}
use Rattle.console_spec.specs.Lines.{AreCalls, IsFed, Left}
use Rattle.console_spec.specs.Room.{IsCreation, LacksRoom}

-- ---- calls of channels as calls of their host

-- a call of channels is a run of calls of their host
abbrev pub ACallRunsOnTheHost : Type 0 → Type 0
ACallRunsOnTheHost M =
    (kinds : Meaning M) (before after : Channels M) (call : Call M) → Does kinds before call after
    → (asked : List (host_calls.Call M)) × AsHostCalls before.chained call asked × host_calls.Leads kinds before.host asked after.host

-- and so are calls, one after the other
abbrev pub CallsRunOnTheHost : Type 0 → Type 0
CallsRunOnTheHost M =
    (kinds : Meaning M) (before after : Channels M) (calls : List (Call M)) → Leads kinds before calls after
    → (asked : List (host_calls.Call M)) × RunsOnHost kinds before calls asked after × host_calls.Leads kinds before.host asked after.host

-- ---- instances from their creation on

-- an instance that was born lawful goes by what it was given since
abbrev pub BirthsGoByTheirHistories : Type 0 → Type 0
BirthsGoByTheirHistories M =
    (kinds : Meaning M) (before after : State M) (calls : List (host_calls.Call M)) (i g : ℕ) (kind : M) (p : List ℤ) (later : List (host_calls.Call M))
    → host_calls.Leads kinds before calls after → IsTrue (kinds.lawful kind p before.poison) → (born : Born i kind g p calls later)
    → GoesByItsHistory kinds i kind g p later born.rest after

-- no answer refuses a block of samples
abbrev pub NoBlockIsRefused : Type 0 → Type 0
NoBlockIsRefused M = (i : ℕ) (block out : List ℤ) → host_calls.refusal_of {M = M} (Process i block out) ≡ None

-- in two runs lawful instances of one kind and the same parameters, given the same since their creation, give and answer the same
abbrev pub BirthsAgree : Type 0 → Type 0
BirthsAgree M =
    (kinds : Meaning M) (one one_after other other_after : State M) (calls others : List (host_calls.Call M))
    (i j g h : ℕ) (kind : M) (p : List ℤ) (later since : List (host_calls.Call M))
    → host_calls.Leads kinds one calls one_after → IsTrue (kinds.lawful kind p one.poison) → Born i kind g p calls later
    → host_calls.Leads kinds other others other_after → IsTrue (kinds.lawful kind p other.poison) → Born j kind h p others since
    → history_of_run i [] later ≡ history_of_run j [] since
    → (outputs_in i later ≡ outputs_in j since) × (statuses_in i later ≡ statuses_in j since)

-- ---- lines

-- what a console answers to lines was made by calls of its channels
abbrev pub LinesAreCalls : Type 0 → Type 0
LinesAreCalls M =
    (kinds : Meaning M) (named : List ℕ → Option M) (widths : Widths) (honest : ℕ → Bool) (run : Run (Channels M)) (lines : List (List ℕ)) (answer : Answer (Channels M))
    → LinesAnswer (console_machine kinds named widths) honest run lines answer
    → (made : List (Call M)) × AreCalls kinds named widths honest run lines answer made

-- where a feed is fed from an honest input, as many samples are left there as it asks for
abbrev pub HonestInputsHaveEnough : Type 0 → Type 0
HonestInputsHaveEnough M =
    (honest : ℕ → Bool) (c n : ℕ) (left after : Left) (made : List (Call M)) → honest c ≡ true → IsFed honest c n left made after
    → n ≤ length (left c)

-- the channel is fed the first samples that are left
abbrev pub HonestFeedsTakeTheFirst : Type 0 → Type 0
HonestFeedsTakeTheFirst M =
    (honest : ℕ → Bool) (c n : ℕ) (left after : Left) (made : List (Call M)) → honest c ≡ true → IsFed honest c n left made after
    → (out : List ℤ) × (made ≡ Ready c (Ok tt) ∷ Feed c (take n (left c)) out ∷ [])

-- and the others are left
abbrev pub HonestFeedsLeaveTheOthers : Type 0 → Type 0
HonestFeedsLeaveTheOthers M =
    (honest : ℕ → Bool) (c n : ℕ) (left after : Left) (made : List (Call M)) → honest c ≡ true → IsFed honest c n left made after
    → after c ≡ drop n (left c)

-- a refused line leaves the state as it was
abbrev pub RefusedLinesChangeNothing : Type 0 → Type 0
RefusedLinesChangeNothing M =
    (kinds : Meaning M) (named : List ℕ → Option M) (widths : Widths) (honest : ℕ → Bool) (run : Run (Channels M)) (line : List ℕ) (answer : Answer (Channels M))
    → LineAnswer (console_machine kinds named widths) honest run line answer → 1 ≤ refusals answer.written → answer.run.state ≡ run.state

-- ---- room

-- only a creation is refused for want of room
abbrev pub OnlyCreationsLackRoom : Type 0 → Type 0
OnlyCreationsLackRoom M =
    (kinds : Meaning M) (before after : Channels M) (call : Call M) (space : Space)
    → Does kinds before call after → refusal_of call ≡ Some (Room space) → IsCreation call

-- a creation whose memory is known is refused so exactly where it lacks room
abbrev pub CreationsLackRoomExactly : Type 0 → Type 0
CreationsLackRoomExactly M =
    (kinds : Meaning M) (before after : State M) (i g : ℕ) (kind : M) (p : List ℤ) (answer : Result (Unit {0}) Refusal) (space : Space)
    → host_calls.Does kinds before (Create i kind g p answer) after → IsTrue (tells_memory kinds before.poison kind p)
    → (answer ≡ Err (Room space)) ↔ LacksRoom kinds before i kind g p space
