-- What is before the mark is one run.
use Rattle.std.proofs.Common.{◌≤◌, ap, arith, length, sym, ◌∙◌}
use Rattle.space_raw.specs.Stores.{slots_of}
use Rattle.space_raw.proofs.Slots.{run_long}
use Rattle.space_raw.proofs.Stores.{seen_long, there_is, first_run}
use Rattle.space_raw.proofs.store.Store.end.Goals as goal

pub carve-words-requires : goal.carve-words-requires
carve-words-requires c =
    let s = c.args.self in let w = s.written in let cs = s.loose.slots in
    let inside : w ≤ length (slots_of s) = omega (arith, seen_long w cs, c.requires.store.2) in
    record { there = there_is w cs 0 w (omega arith) (first_run (slots_of s) 0 w (length (slots_of s)) inside c.requires.there) }

pub returns-clause-words : goal.returns-clause-words
returns-clause-words c =
    let s = c.args.self in let w = s.written in let cs = s.loose.slots in
    let inside : w ≤ length (slots_of s) = omega (arith, seen_long w cs, c.requires.store.2) in
    let there = there_is w cs 0 w (omega arith) (first_run (slots_of s) 0 w (length (slots_of s)) inside c.requires.there) in
    let told = c.carve-words.ensures.words in
    (told.0, told.1, ap length told.2 ∙ sym (run_long cs 0 w there))
