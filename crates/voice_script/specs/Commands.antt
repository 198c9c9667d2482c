-- What a contract sees of parsed lines.
use Rattle.std.specs.Prelude.{Option, Some, None, Result, Ok, Err}
use Rattle.ialg.specs.declared.refusal.Refusal.{Refusal}
use Rattle.ialg.specs.History as history
use Rattle.voice_script.specs.Script as script
use Rattle.voice_script.specs.declared.commands.Command.{Command}
use Rattle.voice_script.specs.declared.commands.Command.TheVariants.{Create, Set, Reset, Get, Delete, Chain, Unchain, Feed, Compact, Step, Release, Map, Stat}

abbrev pub command_of : {M : Type 0} → Command M → script.Command M
command_of (Create instance kind group parameters) = script.Create instance kind group parameters.now.items
command_of (Set instance words) = script.Control instance (history.Set words.now.items)
command_of (Reset instance) = script.Control instance history.Reset
command_of (Get instance) = script.Control instance history.Get
command_of (Delete instance) = script.Delete instance
command_of (Chain channel members) = script.Chain channel members.numbers.items
command_of (Unchain channel) = script.Unchain channel
command_of (Feed channel samples) = script.Feed channel samples.number
command_of (Compact space) = script.Compact space
command_of (Step space) = script.Step space
command_of (Release group) = script.Release group
command_of (Map space) = script.Map space
command_of (Stat group) = script.Stat group

abbrev pub line_of : {M : Type 0} → Result (Option (Command M)) Refusal → Result (Option (script.Command M)) Refusal
line_of (Ok (Some command)) = Ok (Some (command_of command))
line_of (Ok None) = Ok None
line_of (Err refusal) = Err refusal
