-- The headline, of a run of a console over a list of lines.
use Rattle.std.specs.Prelude.{ℕ, ℤ, ◌≡◌, ◌≤◌, ◌↔◌, Bool, IsTrue, List, ◌++◌, Option, Some, Result, Err}
use Rattle.mem_rec.specs.declared.Space.{Space}
use Rattle.ialg.specs.declared.refusal.Refusal.{Refusal}
use Rattle.ialg.specs.declared.refusal.Refusal.TheVariants.{Room}
use Rattle.ialg.specs.Meaning.{Meaning}
use Rattle.host_map.specs.declared.parts.Sizes.{Sizes}
use Rattle.host_spec.specs.State.{State}
use Rattle.host_spec.specs.Choices.{tells_memory}
use Rattle.host_spec.specs.Calls as host_calls
use Rattle.host_spec.specs.Calls.Call.{Create}
use Rattle.channel_spec.specs.Channels.{Channels}
use Rattle.channel_spec.specs.Calls.{Call, Does, refusal_of}
use Rattle.voice_script.specs.Served.{Answer, LineAnswer, LinesAnswer, Run, Written, held_by, order_of, refusals}
use Rattle.voice_script.specs.Widths.{Widths}
use Rattle.console_spec.specs.Samples.{octets_at}
use Rattle.console_spec.specs.Console.{console_machine, start}
use Rattle.console_spec.specs.HostRuns.{RunsOnHost}
use Rattle.console_spec.specs.Births.{Born, GoesByItsHistory}
use Rattle.console_spec.specs.Lines.{LinesMake, fed_out, samples_on}
use Rattle.console_spec.specs.Room.{IsCreation, LacksRoom}

-- why commands are refused, and what a refused one does
pub record Refuses {M : Type 0} (kinds : Meaning M) (named : List ℕ → Option M) (widths : Widths) : Type 0 where
  -- only creation is refused for space,
  pub only : (before after : Channels M) (call : Call M) (space : Space) → Does kinds before call after → refusal_of call ≡ Some (Room space) → IsCreation call
  -- exactly where no place is free, of what a lawful kind asks for and of what any other kind declares,
  pub exactly : (before after : State M) (i g : ℕ) (kind : M) (p : List ℤ) (answer : Result (Unit {0}) Refusal) (space : Space)
      → host_calls.Does kinds before (Create i kind g p answer) after → IsTrue (tells_memory kinds before.poison kind p)
      → (answer ≡ Err (Room space)) ↔ LacksRoom kinds before i kind g p space
  -- and a refused command changes no instance, channel or place: no call that is refused,
  pub nothing : (before after : Channels M) (call : Call M) (refusal : Refusal) → Does kinds before call after → refusal_of call ≡ Some refusal → after ≡ before
  -- and no line
  pub no_line : (honest : ℕ → Bool) (run : Run (Channels M)) (line : List ℕ) (answer : Answer (Channels M)) → LineAnswer (console_machine kinds named widths) honest run line answer
      → 1 ≤ refusals answer.written → answer.run.state ≡ run.state

-- by the answer to the lines of a script, over ports of these widths of which these inputs are honest, from a host of these sizes and this poison
-- word
pub record Headline {M : Type 0} (kinds : Meaning M) (named : List ℕ → Option M) (widths : Widths) (sizes : Sizes) (poison : Option ℤ) (lines octets : List (List ℕ)) (honest : ℕ → Bool) (answer : Answer (Channels M)) : Type 0 where
  -- over any list of commands: the calls of channels that they make, which take samples from the inputs, those of an honest one in their order,
  -- and what those calls ask of the host
  pub calls : List (Call M)
  pub commands : LinesMake honest named lines (samples_on widths octets) calls (samples_on widths answer.run.inputs)
  pub asked : List (host_calls.Call M)
  pub runs : RunsOnHost kinds (start sizes poison octets).state calls asked answer.run.state
  -- each living instance's output is its difference equation applied to its own granted controls and samples since its creation, whatever
  -- its scratch memory held, wherever its records were moved and whatever other instances did, even ones that break IALG's laws;
  pub each : (i : ℕ) (kind : M) (g : ℕ) (p : List ℤ) (later : List (host_calls.Call M)) → IsTrue (kinds.lawful kind p poison) → (born : Born i kind g p asked later)
      → GoesByItsHistory kinds i kind g p later born.rest answer.run.state.host
  -- what a channel's feeds give is written on it;
  pub outputs : (c : ℕ) → held_by (Some c) (order_of answer.written) ≡ octets_at (widths.output c) (fed_out c calls)
  -- only creation is refused for space, exactly where no place is free, and a refused command changes no instance, channel or place
  pub refuses : Refuses kinds named widths

-- up to a line: the headline holds of the first lines by themselves. Their calls are the first ones of all calls, and what was written for
-- them is the first of all that was written
pub record GoesOn {M : Type 0} (kinds : Meaning M) (named : List ℕ → Option M) (widths : Widths) (sizes : Sizes) (poison : Option ℤ) (first more octets : List (List ℕ)) (honest : ℕ → Bool) (answer : Answer (Channels M)) : Type 0 where
  pub so_far : Answer (Channels M)
  pub served : LinesAnswer (console_machine kinds named widths) honest (start sizes poison octets) first so_far
  pub says : Headline kinds named widths sizes poison first octets honest so_far
  pub all : Headline kinds named widths sizes poison (first ++ more) octets honest answer
  pub later_calls : List (Call M)
  pub calls : all.calls ≡ says.calls ++ later_calls
  pub later_asked : List (host_calls.Call M)
  pub asked : all.asked ≡ says.asked ++ later_asked
  pub later : List Written
  pub written : answer.written ≡ so_far.written ++ later
