-- What is known of a port over a journal.
use Rattle.std.specs.Prelude.{Bool, false, []}
use Rattle.octet_ports.specs.Ports.{Sink}

-- what a cell holds isn't known: the port is not honest, and all that is known of it is whether it has failed
abbrev pub handle_sink : Bool → Sink
handle_sink failed = record { honest = false; held = []; passed = 0; failed = failed }
