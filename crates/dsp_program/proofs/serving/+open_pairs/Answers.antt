use Rattle.std.proofs.Common.{rules}
use Rattle.script_server.specs.Runs.{IsReadyIn}
use Rattle.dsp_program.proofs.Opening.{ready_behind}
use Rattle.dsp_program.proofs.serving.+open_pairs.Goals as goal

pub returns-clause-to_read : goal.returns-clause-to_read
returns-clause-to_read g t c = λ ok all. c.open_pairs.ensures.to_read ok (ready_behind IsReadyIn _ c.args.inputs.now.items c.in_ok-port.port _ (search rules) all c.in_ok-port.ensures)
