use Rattle.std.specs.Prelude.{map}
use Rattle.alg_host.specs.Hosts.{stat_told}
use Rattle.host_spec.specs.Calls.Call.{Stat}
use Rattle.voice_channel.proofs.Served.{read}
use Rattle.voice_channel.proofs.channels.Channels.stat.Goals as goal

pub returns : goal.returns
returns g c = record {
  machine = read g.M.Ialg.law (Stat c.args.group (stat_told c.stat.result)) tt c.self.inside.host (map (λ m. m.items) c.self.inside.channels.items) c.args.self.now c.self.view_is c.stat.ensures.machine;
}
