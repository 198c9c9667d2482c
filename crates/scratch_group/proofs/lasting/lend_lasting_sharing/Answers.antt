use Rattle.record_loans.specs.Pieces.{only_third}
use Rattle.scratch_group.specs.Words.{DoneIdle}
use Rattle.scratch_group.proofs.Sharing.{sharing_at_rest, sharing_fits_at_rest}
use Rattle.scratch_group.proofs.lasting.lend_lasting_sharing.Goals as goal

pub returns-clause-done : goal.returns-clause-done
returns-clause-done g c =
    let lent = sharing_at_rest c.args.loan.now.table.now c.args.sizes c.requires.sharing.table c.requires.sharing.sizes in
    rw (lent c.args.own.now (only_third c.args.once.now), lent c.lend_sharing_filter_at_rest.new.own (only_third c.lend_sharing_filter_at_rest.new.once), DoneIdle) c.lend_sharing_filter_at_rest.ensures.done

pub lend_sharing_filter_at_rest-requires : goal.lend_sharing_filter_at_rest-requires
lend_sharing_filter_at_rest-requires g c =
    let fits = sharing_fits_at_rest c.args.loan.now.table.now c.args.sizes c.requires.sharing.table c.requires.sharing.sizes c.args.own.now (only_third c.args.once.now) c.requires.sizes in
    let some = c.requires.sharing.sizes.some in
    record { can = c.requires.can; object = fits.0; kept = fits.1; constants = fits.2; some = (some.0, some.1, some.2) }

pub returns-clause-own : goal.returns-clause-own
returns-clause-own g c = c.lend_sharing_filter_at_rest.ensures.own

pub returns-clause-once : goal.returns-clause-once
returns-clause-once g c = c.lend_sharing_filter_at_rest.ensures.once
