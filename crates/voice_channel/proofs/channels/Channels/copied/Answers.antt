use Rattle.std.specs.Prelude.{map}
use Rattle.host_spec.specs.Calls.Call.{Copied}
use Rattle.voice_channel.proofs.Served.{read}
use Rattle.voice_channel.proofs.channels.Channels.copied.Goals as goal

pub returns : goal.returns
returns g c = record {
  machine = read g.M.Ialg.law (Copied c.copied.result) tt c.self.inside.host (map (λ m. m.items) c.self.inside.channels.items) c.args.self.now c.self.view_is c.copied.ensures.machine;
}
