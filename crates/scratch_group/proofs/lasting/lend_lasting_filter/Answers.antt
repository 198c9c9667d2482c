use Rattle.record_loans.specs.Pieces.{no_pieces}
use Rattle.scratch_group.specs.Words.{DoneIdle}
use Rattle.scratch_group.proofs.Filters.{filter_at_rest, filter_fits_at_rest}
use Rattle.scratch_group.proofs.lasting.lend_lasting_filter.Goals as goal

pub returns-clause-done : goal.returns-clause-done
returns-clause-done g c =
    let lent = filter_at_rest c.args.loan.now.table.now c.args.sizes c.requires.filter.table c.requires.filter.sizes in
    rw (lent c.args.own.now no_pieces, lent c.lend_filter_at_rest.new.own no_pieces, DoneIdle) c.lend_filter_at_rest.ensures.done

pub lend_filter_at_rest-requires : goal.lend_filter_at_rest-requires
lend_filter_at_rest-requires g c =
    let fits = filter_fits_at_rest c.args.loan.now.table.now c.args.sizes c.requires.filter.table c.requires.filter.sizes c.args.own.now no_pieces c.requires.sizes in
    let some = c.requires.filter.sizes.some in
    record { can = c.requires.can; object = fits.0; kept = fits.1; some = (some.0, some.1) }

pub returns-clause-own : goal.returns-clause-own
returns-clause-own g c = c.lend_filter_at_rest.ensures.own
