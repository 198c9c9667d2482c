use Rattle.std.specs.Prelude.{map}
use Rattle.host_spec.specs.Calls.Call.{Map as MapCall}
use Rattle.voice_channel.proofs.Served.{read}
use Rattle.voice_channel.proofs.channels.Channels.blocks_in.Goals as goal

pub returns-clause-machine : goal.returns-clause-machine
returns-clause-machine g c = read g.M.Ialg.law (MapCall c.args.space c.blocks_in.result.now) tt c.self.inside.host (map (λ m. m.items) c.self.inside.channels.items) c.args.self.now c.self.view_is c.blocks_in.ensures.machine
