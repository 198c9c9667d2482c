-- What the owner of loose words ends as, once a `&mut` to a run of them has ended. No public clause speaks of it.
use Rattle.std.specs.Prelude.{ℕ, ℤ, List}
use Rattle.std.specs.Borrow.{Fml, MutBor, Array, Lends}
use Rattle.std.specs.List.{refill}
use denote.Builtin.{i16}
use Rattle.space_raw.specs.Slots.{run_of, with_run}
use Rattle.space_raw.specs.declared.loose.Loose.{Loose}
use Rattle.space_raw.specs.contracts.loose.Loose.{the_row}

-- r with ws for the n words from the place on
abbrev pub rewritten : Loose → ℕ → ℕ → List ℤ → Loose
rewritten r place n ws = record { base = r.base; slots = with_run r.slots place (refill n (run_of r.slots place n) ws) }

abbrev pub lends_run : MutBor Loose → ℕ → ℕ → MutBor (List ℤ) → Fml
lends_run r place n w = Lends the_row (Array i16 0) r w (rewritten r.now place n)
