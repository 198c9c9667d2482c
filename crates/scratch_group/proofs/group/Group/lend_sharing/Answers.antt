use Rattle.record_loans.specs.Pieces.{only_third}
use Rattle.scratch_group.specs.declared.group.Group.{Group}
use Rattle.scratch_group.specs.Words.{DoneActive}
use Rattle.scratch_group.proofs.Sharing.{sharing_lent}
use Rattle.scratch_group.proofs.group.Group.lend_sharing.Goals as goal

pub returns-clause-done : goal.returns-clause-done
returns-clause-done g c =
    let old : Group = c.args.self.now in
    let new : Group = record { daram = c.lend_sharing_filter.new.daram; saram = old.saram; external = old.external; active = old.active; activations = old.activations } in
    let lent = sharing_lent c.args.table.now c.args.sizes c.requires.sharing.table c.requires.sharing.sizes in
    rw (lent c.args.own.now (only_third c.args.once.now) old, lent c.lend_sharing_filter.new.own (only_third c.lend_sharing_filter.new.once) new, DoneActive) c.lend_sharing_filter.ensures.done
