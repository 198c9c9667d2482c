use Rattle.record_loans.specs.Pieces.{only_second}
use Rattle.scratch_group.specs.Words.{DoneActive}
use Rattle.scratch_group.proofs.Readers.{reader_lent}
use Rattle.scratch_group.proofs.group.Group.lend_reading.Goals as goal

pub returns-clause-done : goal.returns-clause-done
returns-clause-done g c =
    let lent = reader_lent c.args.table.now c.args.sizes c.requires.reader.table c.requires.reader.sizes in
    rw (lent c.args.own.now (only_second c.args.once.now) c.args.self.now, lent c.lend_reader.new.own (only_second c.lend_reader.new.once) c.args.self.now, DoneActive) c.lend_reader.ensures.done
