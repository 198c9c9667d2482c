-- What a console may do with lines: it calls channels of instances, and tells what they answer.
use Rattle.std.specs.Prelude.{ℕ, ℤ, ◌≡◌, Bool, List, length, replicate, [], Option, Some, None, Result, Ok, Err}
use Rattle.ialg.specs.declared.refusal.Refusal.{Refusal}
use Rattle.ialg.specs.Meaning as meaning
use Rattle.ialg.specs.Meaning.{Meaning, Status}
use Rattle.host_map.specs.declared.placed.Placed.{Placed}
use Rattle.host_map.specs.declared.parts.Sizes.{Sizes}
use Rattle.host_map.specs.Activity.{Activity}
use Rattle.host_spec.specs.State.{new_state}
use Rattle.host_spec.specs.Calls as host_calls
use Rattle.channel_spec.specs.Channels.{Channels}
use Rattle.channel_spec.specs.Calls as calls
use Rattle.channel_spec.specs.Calls.{Call, Does, OfHost}
use Rattle.voice_script.specs.Script as script
use Rattle.voice_script.specs.Script.{Command, parsed}
use Rattle.voice_script.specs.Replies as replies
use Rattle.voice_script.specs.Replies.{Reply, No}
use Rattle.voice_script.specs.Served as asks
use Rattle.voice_script.specs.Served.{Asked, Machine, Run}
use Rattle.voice_script.specs.Widths.{Widths, octet_count}
use Rattle.console_spec.specs.Samples.{octets_at, samples_at}

-- ---- what is told of answers

-- what follows from an answer, or from the refusal in its place
abbrev pub by_answer : {A B : Type 0} → (A → B) → (Refusal → B) → Result A Refusal → B
by_answer granted refused (Ok answer) = granted answer
by_answer granted refused (Err refusal) = refused refusal

abbrev pub status_reply : Status → Reply
status_reply meaning.Done = replies.Done
status_reply (meaning.Words words) = replies.Words words

-- ---- what a line asks

-- the call that a command makes, by its answer, and how that answer is told
pub record CommandCall (M : Type 0) : Type 1 where
  pub Answer : Type 0
  pub call : Answer → Call M
  pub told : Answer → Reply

-- a feed asks first whether its channel is ready
abbrev pub call_of : {M : Type 0} → Command M → CommandCall M
call_of (script.Create i kind g words) = record { Answer = Result (Unit {0}) Refusal; call = λ a. OfHost (host_calls.Create i kind g words a); told = by_answer (λ _. replies.Done) No }
call_of (script.Control i c) = record { Answer = Result Status Refusal; call = λ a. OfHost (host_calls.Control i c a); told = by_answer status_reply No }
call_of (script.Delete i) = record { Answer = Result (Unit {0}) Refusal; call = λ a. calls.Remove i a; told = by_answer (λ _. replies.Done) No }
call_of (script.Chain c is) = record { Answer = Result (Unit {0}) Refusal; call = λ a. calls.Chain c is a; told = by_answer (λ _. replies.Done) No }
call_of (script.Unchain c) = record { Answer = Result (Unit {0}) Refusal; call = λ a. calls.Unchain c a; told = by_answer (λ _. replies.Done) No }
call_of (script.Feed c n) = record { Answer = Result (Unit {0}) Refusal; call = λ a. calls.Ready c a; told = by_answer (λ _. replies.Done) No }
call_of (script.Compact space) = record { Answer = ℕ; call = λ a. OfHost (host_calls.Compact space a); told = replies.Count }
call_of (script.Step space) = record { Answer = Bool; call = λ a. OfHost (host_calls.Step space a); told = replies.Flag }
call_of (script.Release g) = record { Answer = Result Bool Refusal; call = λ a. OfHost (host_calls.Release g a); told = by_answer replies.Flag No }
call_of (script.Map space) = record { Answer = List Placed; call = λ a. OfHost (host_calls.Map space a); told = replies.Map }
call_of (script.Stat g) = record { Answer = Result Activity Refusal; call = λ a. OfHost (host_calls.Stat g a); told = by_answer (λ a. replies.Stat a.active a.count) No }

module _ {M : Type 0} (kinds : Meaning M) where
  -- the channels are called, and the line asks what follows from their answer
  abbrev pub Calls : {A : Type 0} → (A → Call M) → (A → Asked) → Channels M → Asked → Channels M → Type 0
  Calls {A} call asked_by before asked after = (answer : A) × Does kinds before (call answer) after × (asked ≡ asked_by answer)

  -- a feed asks for its samples' octets, by the width of its input, where the channel is ready. Of every other command the answer is told
  abbrev pub CommandAsks : Widths → Command M → Channels M → Asked → Channels M → Type 0
  CommandAsks widths (script.Feed c n) =
      Calls (λ a. calls.Ready c a) (by_answer (λ _. asks.Feed c (octet_count (widths.input c) n)) (λ refusal. asks.Tell (No refusal)))
  CommandAsks widths command = Calls (call_of command).call (λ a. asks.Tell ((call_of command).told a))

  -- a blank line asks nothing, and one that isn't in the grammar is refused
  abbrev pub LineAsks : Widths → Result (Option (Command M)) Refusal → Channels M → Asked → Channels M → Type 0
  LineAsks widths (Ok (Some command)) before asked after = CommandAsks widths command before asked after
  LineAsks widths (Ok None) before asked after = (asked ≡ asks.Nothing) × (after ≡ before)
  LineAsks widths (Err refusal) before asked after = (asked ≡ asks.Tell (No refusal)) × (after ≡ before)

  -- a block of samples through a channel, each port with its width
  abbrev pub FeedGives : Widths → Channels M → ℕ → (octets output : List ℕ) → (samples : ℕ) → Channels M → Type 0
  FeedGives widths before c octets output samples after =
      (out : List ℤ) × Does kinds before (calls.Feed c (samples_at (widths.input c) octets) out) after
      × (output ≡ octets_at (widths.output c) out) × (samples ≡ length out)

  abbrev pub console_machine : (List ℕ → Option M) → Widths → Machine (Channels M)
  console_machine named widths = record { Asks = λ before line. LineAsks widths (parsed named line) before; Gives = FeedGives widths }

-- at the start no instance lives, and no channel, as many as there are inputs, is chained
abbrev pub start : {M : Type 0} → Sizes → Option ℤ → List (List ℕ) → Run (Channels M)
start sizes poison inputs = record { state = record { host = new_state sizes poison; chained = replicate (length inputs) [] }; inputs = inputs }
