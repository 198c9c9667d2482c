use Rattle.host_protocol.proofs.InOrder.{in_order}
use Rattle.host_protocol.proofs.StillLive.{still_live}
use Rattle.host_protocol.proofs.Runs.{runs_in_order}
use Rattle.host_protocol.proofs.laws.calls_are_in_order.Goals as goal

pub returns-clause-order : goal.returns-clause-order
returns-clause-order g c = in_order

pub returns-clause-active : goal.returns-clause-active
returns-clause-active g c = still_live

pub returns-clause-run : goal.returns-clause-run
returns-clause-run g c = runs_in_order _
