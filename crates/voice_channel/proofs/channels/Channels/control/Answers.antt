use Rattle.std.specs.Prelude.{map}
use Rattle.ialg.specs.Views.{control_of}
use Rattle.host_moves.specs.Refinement.{told}
use Rattle.host_spec.specs.Calls.Call.{Control}
use Rattle.voice_channel.proofs.Served.{served}
use Rattle.voice_channel.proofs.channels.Channels.control.Goals as goal

pub returns-clause-machine : goal.returns-clause-machine
returns-clause-machine g c =
    served g.M.Ialg.law (Control c.args.i (control_of c.args.c.now) (told c.control.result)) tt c.self.inside.host c.control.new.self (map (λ m. m.items) c.self.inside.channels.items) c.args.self.now c.self.view_is c.control.ensures.machine
