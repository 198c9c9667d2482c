use Rattle.record_loans.specs.Pieces.{no_pieces}
use Rattle.scratch_group.specs.declared.group.Group.{Group}
use Rattle.scratch_group.specs.Words.{DoneActive}
use Rattle.scratch_group.proofs.Filters.{filter_lent}
use Rattle.scratch_group.proofs.group.Group.lend_filtering.Goals as goal

pub returns-clause-done : goal.returns-clause-done
returns-clause-done g c =
    let old : Group = c.args.self.now in
    let new : Group = record { daram = c.lend_filter.new.daram; saram = old.saram; external = old.external; active = old.active; activations = old.activations } in
    let lent = filter_lent c.args.table.now c.args.sizes c.requires.filter.table c.requires.filter.sizes in
    rw (lent c.args.own.now no_pieces old, lent c.lend_filter.new.own no_pieces new, DoneActive) c.lend_filter.ensures.done
