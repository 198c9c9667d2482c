use Rattle.std.proofs.Common.{subst}
use Rattle.channel_spec.specs.Calls.Call.{Feed}
use Rattle.voice_channel.specs.Channels.{ChannelsCallRefines}
use Rattle.dsp_console.proofs.lines.pass.Goals as goal

pub returns-clause-machine : goal.returns-clause-machine
returns-clause-machine g c =
    subst (λ block. ChannelsCallRefines g.M.Ialg.law (Feed c.args.channel block c.feed.new.out.items) c.args.channels.now c.feed.new.self) c.read_samples.ensures c.feed.ensures.machine
