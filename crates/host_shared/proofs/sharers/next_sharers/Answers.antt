use Rattle.std.proofs.Common.{◌≡◌, ℕ, zero, suc, List, sym}
use Rattle.host_shared.specs.declared.joining.Sharers.{Sharers}
use Rattle.host_shared.specs.declared.locations.Locations.{Locations}
use Rattle.host_shared.specs.Joining.{sharer_at}
use Rattle.host_shared.specs.Sharing.{next_sharer}
use Rattle.host_shared.proofs.Handing.{next_past}
use Rattle.host_shared.proofs.sharers.next_sharers.Goals as goal

each : (sharing : List Locations) (i : ℕ) (t : Sharers) → t.t0 ≡ next_sharer sharing i 0 → t.t1 ≡ next_sharer sharing i 1 → t.t2 ≡ next_sharer sharing i 2 → t.t3 ≡ next_sharer sharing i 3
    → (k : ℕ) → sharer_at t k ≡ next_sharer sharing i k
each sharing i t first second third fourth zero = first
each sharing i t first second third fourth (suc zero) = second
each sharing i t first second third fourth (suc (suc zero)) = third
each sharing i t first second third fourth (suc (suc (suc zero))) = fourth
each sharing i t first second third fourth (suc (suc (suc (suc k)))) = sym (next_past 0 sharing i k)

pub returns : goal.returns
returns c =
    each c.args.sharing.now.items c.args.i (record { t0 = c.next_sharer-t0.result; t1 = c.next_sharer-t1.result; t2 = c.next_sharer-t2.result; t3 = c.next_sharer-t3.result }) c.next_sharer-t0.ensures c.next_sharer-t1.ensures c.next_sharer-t2.ensures c.next_sharer-t3.ensures

pub next_sharer-t0-requires-clause-held : goal.next_sharer-t0-requires-clause-held
next_sharer-t0-requires-clause-held c = c.requires.held 0

pub next_sharer-t1-requires-clause-held : goal.next_sharer-t1-requires-clause-held
next_sharer-t1-requires-clause-held c = c.requires.held 1

pub next_sharer-t2-requires-clause-held : goal.next_sharer-t2-requires-clause-held
next_sharer-t2-requires-clause-held c = c.requires.held 2

pub next_sharer-t3-requires-clause-held : goal.next_sharer-t3-requires-clause-held
next_sharer-t3-requires-clause-held c = c.requires.held 3
