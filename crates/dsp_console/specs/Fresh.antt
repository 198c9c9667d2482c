-- For private clauses alone: a console that was just made, and how it serves.
use Rattle.std.specs.Prelude.{ℕ, List, length, Option, Result, IfOk, IsErrOf}
use Rattle.ialg.specs.Laws.{Laws}
use Rattle.ialg.specs.Meaning.{Meaning}
use Rattle.host_spaces.specs.MemoryMap.{sizes_of}
use Rattle.host_spec.specs.State.{new_state}
use Rattle.channel_spec.specs.Channels.{Channels, unchained}
use Rattle.octet_ports.specs.Ports.{Source}
use Rattle.script_server.specs.Runs.{Devices, EndsByRead, EndsByWrite, EndsWell, octets_to_come, run_of}
use Rattle.console_spec.specs.Console.{console_machine}
use Rattle.dsp_console.specs.declared.console.Console.{Console}
use Rattle.dsp_console.specs.declared.serving.Summary.{Summary}
use Rattle.dsp_console.specs.declared.serving.Fault.{Fault}
use Rattle.dsp_console.specs.declared.serving.Fault.TheVariants.{Read, Write}
use Rattle.dsp_console.specs.Consoles.{ConsoleRefines, port_widths_of}

-- its first state, of the sizes and the poison word that its host has, with these sources
abbrev pub fresh : {M : Type 0} → Console M → List Source → Channels M
fresh console sources = unchained (new_state (sizes_of console.channels.host.spaces) console.channels.host.poison) (length (octets_to_come sources))

-- it keeps that state
abbrev pub IsFresh : {M : Type 0} → Laws M → List Source → Console M → Type 0
IsFresh laws sources console = ConsoleRefines laws console (fresh console sources)

-- from there it served, and answered so
module _ {M : Type 0} (kinds : Meaning M) (named : List ℕ → Option M) (console : Console M) (result : Result Summary Fault) (old new : Devices) where
  -- where it answers a summary, all was served, and passed on
  abbrev pub FreshEndsWell : Type 0
  FreshEndsWell = IfOk result (λ summary. EndsWell (console_machine kinds named (port_widths_of console)) (run_of (fresh console old.inputs) old.inputs) summary.refused old new)

  -- where a script or an input failed, exactly some lines were served
  abbrev pub FreshEndsByRead : Type 0
  FreshEndsByRead = IsErrOf result Read → EndsByRead (console_machine kinds named (port_widths_of console)) (run_of (fresh console old.inputs) old.inputs) old new

  -- where an output or the replies failed, the first lines were served
  abbrev pub FreshEndsByWrite : Type 0
  FreshEndsByWrite = IsErrOf result Write → EndsByWrite (console_machine kinds named (port_widths_of console)) (run_of (fresh console old.inputs) old.inputs) old new
