use Rattle.std.specs.Prelude.{map}
use Rattle.host_spec.specs.Calls.Call.{Release}
use Rattle.voice_channel.proofs.Served.{served}
use Rattle.voice_channel.proofs.channels.Channels.release.Goals as goal

pub returns-clause-machine : goal.returns-clause-machine
returns-clause-machine g c =
    served g.M.Ialg.law (Release c.args.group c.release.result) tt c.self.inside.host c.release.new.self (map (λ m. m.items) c.self.inside.channels.items) c.args.self.now c.self.view_is c.release.ensures.machine
