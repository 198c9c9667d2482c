-- What a `Held` owns: the machine, as a `Box` does, or nothing.
use Rattle.std.specs.Prelude.{Option, Some, None}
use base.Fml.{Fml, ftrue}
use base.Stored.{Coded}
use denote.RawPtr.{Ptr}
use Rattle.std.specs.Coded.{coded_option}
use Rattle.std.specs.Box.Ownership.{box_owns}
use Rattle.std.specs.Global.{Global}
use Rattle.std_heap.specs.contracts.GlobalAllocator.TheImpl.{ghosts}
use Rattle.dsp_library.specs.contracts.machine.Machine.{the_row}

abbrev pub held_owns : Global → Ptr → Option the_row.Denot → Fml
held_owns alloc at (Some m) = box_owns (ghosts.dealloc_token alloc) the_row at m
held_owns alloc at None = ftrue

abbrev pub machine_coded : Coded (Option the_row.Denot)
machine_coded = coded_option the_row.coded
