use Rattle.record_loans.specs.Pieces.{only_second}
use Rattle.scratch_group.specs.Words.{DoneIdle}
use Rattle.scratch_group.proofs.Readers.{reader_at_rest, reader_fits_at_rest}
use Rattle.scratch_group.proofs.lasting.lend_lasting_reader.Goals as goal

pub returns-clause-done : goal.returns-clause-done
returns-clause-done g c =
    let lent = reader_at_rest c.args.loan.now.table.now c.args.sizes c.requires.reader.table c.requires.reader.sizes in
    rw (lent c.args.own.now (only_second c.args.once.now), lent c.lend_reader.new.own (only_second c.lend_reader.new.once), DoneIdle) c.lend_reader.ensures.done

pub lend_reader-requires : goal.lend_reader-requires
lend_reader-requires g c =
    let fits = reader_fits_at_rest c.args.loan.now.table.now c.args.sizes c.requires.reader.table c.requires.reader.sizes c.args.own.now (only_second c.args.once.now) c.requires.sizes in
    record { can = c.requires.can; some = c.requires.reader.sizes.some; fit = fits }
