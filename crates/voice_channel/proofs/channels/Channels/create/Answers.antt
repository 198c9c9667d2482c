use Rattle.std.specs.Prelude.{map}
use Rattle.host_spec.specs.Calls.Call.{Create}
use Rattle.voice_channel.proofs.Served.{served}
use Rattle.voice_channel.proofs.channels.Channels.create.Goals as goal

pub returns-clause-machine : goal.returns-clause-machine
returns-clause-machine g c =
    served g.M.Ialg.law (Create c.args.i c.args.kind c.args.group c.args.p.now.items c.create.result) tt c.self.inside.host c.create.new.self (map (λ m. m.items) c.self.inside.channels.items) c.args.self.now c.self.view_is c.create.ensures.machine
