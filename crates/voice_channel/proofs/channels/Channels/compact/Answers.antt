use Rattle.std.specs.Prelude.{map}
use Rattle.host_spec.specs.Calls.Call.{Compact}
use Rattle.voice_channel.proofs.Served.{served}
use Rattle.voice_channel.proofs.channels.Channels.compact.Goals as goal

pub returns-clause-machine : goal.returns-clause-machine
returns-clause-machine g c =
    served g.M.Ialg.law (Compact c.args.space c.compact.result) tt c.self.inside.host c.compact.new.self (map (λ m. m.items) c.self.inside.channels.items) c.args.self.now c.self.view_is c.compact.ensures.machine
