-- What a console serves where the kinds are lawful: then nothing is free, and it is a function. No poison word occurs in it.
use Rattle.std.specs.Prelude.{ℕ, ℤ, List, length, Option, Some, None, Result, Ok, Err}
use Rattle.ialg.specs.declared.refusal.Refusal.{Refusal}
use Rattle.ialg.specs.History.{Ctl}
use Rattle.ialg.specs.Meaning.{Meaning}
use Rattle.host_map.specs.declared.parts.Sizes.{Sizes}
use Rattle.host_map.specs.MemoryMap.{blocks_in}
use Rattle.host_spec.specs.State.{State}
use Rattle.host_spec.specs.Steps as host
use Rattle.host_spec.specs.Answers.{accepted, status_at}
use Rattle.channel_spec.specs.Channels.{Channels, members_at}
use Rattle.channel_spec.specs.Steps as channels
use Rattle.channel_spec.specs.Parts.{on_host}
use Rattle.channel_spec.specs.Answers.{passed}
use Rattle.voice_script.specs.Script.{Command, Create, Control, Delete, Chain, Unchain, Feed, Compact, Step, Release, Map, Stat, lines_of, parsed}
use Rattle.voice_script.specs.Replies as replies
use Rattle.voice_script.specs.Replies.{Reply, No}
use Rattle.voice_script.specs.Served.{Asked, Nothing, Machine, Answer, Tell}
use Rattle.voice_script.specs.Computed.{Computed, lines_answer, machine_of}
use Rattle.voice_script.specs.Widths.{Widths}
use Rattle.console_spec.specs.Samples.{octets_at, samples_at}
use Rattle.console_spec.specs.Console.{start, status_reply}
use Rattle.console_spec.specs.Told.{feed_asked, told_by}

module _ {M : Type 0} where
  -- the answer is told, of a call of the channels or of their host
  abbrev pub tell : {A : Type 0} → (A → Reply) → A × Channels M → Asked × Channels M
  tell reply outcome = (Tell (reply outcome.0), outcome.1)

  abbrev pub tell_of_host : {A : Type 0} → Channels M → (A → Reply) → A × State M → Asked × Channels M
  tell_of_host before reply outcome = (Tell (reply outcome.0), on_host before outcome.1)

module _ {M : Type 0} (kinds : Meaning M) where
  abbrev pub control_asks : Channels M → ℕ → Ctl → Asked × Channels M
  control_asks before i c =
      let x = before.host.living i in
      tell_of_host before (told_by status_reply) (host.control before.host i c (accepted kinds x c) (status_at kinds x c))

  -- what the command asks, and the channels after it
  abbrev pub command_asks : Widths → Channels M → Command M → Asked × Channels M
  command_asks widths before (Create i kind g words) = tell_of_host before (told_by (λ _. replies.Done)) (host.create kinds before.host i kind g words (kinds.table kind words))
  command_asks widths before (Control i c) = control_asks before i c
  command_asks widths before (Delete i) = tell (told_by (λ _. replies.Done)) (channels.delete kinds before i)
  command_asks widths before (Chain c is) = tell (told_by (λ _. replies.Done)) (channels.chain before c is)
  command_asks widths before (Unchain c) = tell (told_by (λ _. replies.Done)) (channels.unchain before c)
  command_asks widths before (Feed c n) = let o = channels.ready before c in (feed_asked (widths.input c) c n o.0, o.1)
  command_asks widths before (Compact space) = tell_of_host before replies.Count (host.compact before.host space)
  command_asks widths before (Step space) = tell_of_host before replies.Flag (host.step before.host space)
  command_asks widths before (Release g) = tell_of_host before (told_by replies.Flag) (host.release before.host g)
  command_asks widths before (Map space) = (Tell (replies.Map (blocks_in before.host.map space)), before)
  command_asks widths before (Stat g) = tell_of_host before (told_by (λ a. replies.Stat a.active a.count)) (host.stat before.host g)

  abbrev pub line_asks : Widths → Channels M → Result (Option (Command M)) Refusal → Asked × Channels M
  line_asks widths before (Ok (Some command)) = command_asks widths before command
  line_asks widths before (Ok None) = (Nothing, before)
  line_asks widths before (Err refusal) = (Tell (No refusal), before)

  -- what a channel gives for a block of samples, and the host after it
  abbrev pub feed_passed : Widths → Channels M → ℕ → List ℕ → List ℤ × State M
  feed_passed widths before c octets = passed kinds before.host (members_at before.chained c) (samples_at (widths.input c) octets)

  abbrev pub computed_console : (List ℕ → Option M) → Widths → Computed (Channels M)
  computed_console named widths = record {
    asked = λ before line. (line_asks widths before (parsed named line)).0;
    after = λ before line. (line_asks widths before (parsed named line)).1;
    output = λ before c octets. octets_at (widths.output c) (feed_passed widths before c octets).0;
    samples = λ before c octets. length (feed_passed widths before c octets).0;
    fed = λ before c octets. on_host before (feed_passed widths before c octets).1;
  }

  -- the machine of consoles where the kinds are lawful
  abbrev pub lawful_console : (List ℕ → Option M) → Widths → Machine (Channels M)
  lawful_console named widths = machine_of (computed_console named widths)

  -- what is served for lines and the octets of the inputs: what is written, in order, and what is left of the inputs
  abbrev pub lines_served : (List ℕ → Option M) → Widths → Sizes → List (List ℕ) → List (List ℕ) → Answer (Channels M)
  lines_served named widths sizes lines inputs = lines_answer (computed_console named widths) (start sizes None inputs) lines

  -- for a whole script
  abbrev pub served : (List ℕ → Option M) → Widths → Sizes → List ℕ → List (List ℕ) → Answer (Channels M)
  served named widths sizes script inputs = lines_served named widths sizes (lines_of script) inputs
