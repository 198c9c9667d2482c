use Rattle.std.proofs.Common.{length, refl, sym}
use Rattle.std.proofs.lemmas.Bool.{ltb-false}
use Rattle.std.proofs.lemmas.Option.{slice_get_past, slice_get_read}
use Rattle.octet_ports.proofs.PassLemmas.{none_taken, some_taken}
use Rattle.octet_ports.proofs.marks.is_taken.Goals as goal

pub returns-in-Some : goal.returns-in-Some
returns-in-Some g c =
    let read = c.in-Some.ensures.lookup in
    let found = rw c.deref.ensures.value at (slice_get_read c.deref.result.now _ c.args.mark.now.output c.in-Some.output.now refl read.3.0 read.1) in
    some_taken c.args.outputs.now.items c.args.mark.now c.in-Some.output.now c.taken.result found c.taken.ensures

pub returns-in-None : goal.returns-in-None
returns-in-None g c =
    let past = ltb-false c.args.mark.now.output (length c.deref.result.now) (sym c.in-None.ensures.lookup.0) in
    none_taken c.args.outputs.now.items c.args.mark.now (rw c.deref.ensures.value at (slice_get_past c.deref.result.now c.args.mark.now.output past))
