use Rattle.std.specs.Prelude.{map}
use Rattle.host_spec.specs.Calls.Call.{Step}
use Rattle.voice_channel.proofs.Served.{served}
use Rattle.voice_channel.proofs.channels.Channels.step.Goals as goal

pub returns-clause-machine : goal.returns-clause-machine
returns-clause-machine g c =
    served g.M.Ialg.law (Step c.args.space c.step.result) tt c.self.inside.host c.step.new.self (map (λ m. m.items) c.self.inside.channels.items) c.args.self.now c.self.view_is c.step.ensures.machine
