use Rattle.std.specs.Prelude.{map}
use Rattle.host_spec.specs.Calls.Call.{Map as MapCall}
use Rattle.voice_channel.proofs.Served.{read}
use Rattle.voice_channel.proofs.channels.Channels.map.Goals as goal

pub returns : goal.returns
returns g c = record {
  machine = read g.M.Ialg.law (MapCall c.args.space c.map.result.items) tt c.self.inside.host (map (λ m. m.items) c.self.inside.channels.items) c.args.self.now c.self.view_is c.map.ensures.machine;
}
