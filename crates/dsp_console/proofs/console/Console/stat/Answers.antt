use Rattle.voice_script.specs.Replies as replies
use Rattle.std.proofs.Common.{ap}
use Rattle.voice_channel.specs.Hosts.{stat_told}
use Rattle.channel_spec.specs.Calls.Call.{OfHost}
use Rattle.host_spec.specs.Calls.Call.{Stat}
use Rattle.console_spec.specs.Told.{told_by}
use Rattle.voice_script.specs.Served.{Tell}
use Rattle.dsp_console.proofs.Served.{called}
use Rattle.dsp_console.proofs.console.Console.stat.Goals as goal

pub returns : goal.returns
returns g c = record {
  asks = called g.M.Ialg.law (λ a. OfHost (Stat c.args.group a)) (λ a. Tell (told_by (λ s. replies.Stat s.active s.count) a)) (stat_told c.stat.result) _ _ _ c.stat.ensures.machine (ap Tell c.tell_stat.ensures);
}
