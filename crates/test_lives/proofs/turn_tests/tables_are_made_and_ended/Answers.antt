use Rattle.std.proofs.Common.{◌≡◌, None}
use Rattle.record_loans.specs.Pieces.{no_pieces}
use Rattle.host_shared.proofs.Stands.{seen_of}
use Rattle.host_table.specs.Table.{slot_at}
use Rattle.test_lives.proofs.turn_tests.tables_are_made_and_ended.Goals as goal

-- no instance lives, so none has a piece
pub end_tables-requires-clause-none : goal.end_tables-requires-clause-none
end_tables-requires-clause-none g c = λ i.
    let step = c.deactivate_in-was_active.ensures.step in
    let empty : slot_at c.deactivate_in-was_active.new.self.instances i ≡ None = rw (c.into_tables-tables.ensures.empty i) at (step.same.slot i) in
    seen_of c.deactivate_in-was_active.new.self.sharing i no_pieces (step.ok.bare i empty)
