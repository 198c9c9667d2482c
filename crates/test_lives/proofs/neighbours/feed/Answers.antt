use Rattle.ialg.specs.Log.{called, fed, Activate}
use Rattle.test_lives.proofs.Housing.{same_blocks_then, same_instance_then}
use Rattle.lifecycle.proofs.Groups.{same_blocks}
use Rattle.test_lives.proofs.neighbours.feed.Goals as goal

pub run-requires-clause-lent : goal.run-requires-clause-lent
run-requires-clause-lent g c = rw c.into_active-active.ensures c.activate.ensures.lent

pub returns-clause-same : goal.returns-clause-same
returns-clause-same g c =
    rw c.into_idle.ensures
    (same_instance_then (same_instance_then c.activate.ensures.did.same (rw c.into_active-active.ensures at c.run.ensures.did.same)) c.deactivate.ensures.did.same)

pub returns-clause-blocks : goal.returns-clause-blocks
returns-clause-blocks g c =
    same_blocks_then c.args.group.now c.activate.new.group c.deactivate.new.group c.activate.ensures.did.blocks
    (same_blocks_then c.activate.new.group c.run.new.group c.deactivate.new.group (same_blocks c.activate.new.group c.run.new.group c.run.ensures.did.group) c.deactivate.ensures.did.blocks)

pub returns-clause-lent : goal.returns-clause-lent
returns-clause-lent g c = rw c.into_idle.ensures c.deactivate.ensures.lent

pub returns-clause-keeps : goal.returns-clause-keeps
returns-clause-keeps g c w l poison keeps =
    rw c.into_idle.ensures
    (c.deactivate.ensures.did.keeps w (fed (called Activate l) c.args.input.now)
    (c.run.ensures.did.keeps w (called Activate l) (rw c.into_active-active.ensures (c.activate.ensures.did.keeps w l poison keeps))))

pub returns-clause-output : goal.returns-clause-output
returns-clause-output g c w l lawful poison keeps =
    let same = c.activate.ensures.did.same in
    let active = c.activate.ensures.did.keeps w l poison keeps in
    let law = c.run.ensures.did.output w (called Activate l) (rw (c.into_active-active.ensures, same.kind, same.params) lawful) (rw c.into_active-active.ensures active) in
    rw (c.into_active-active.ensures, same.kind, same.params) at law
