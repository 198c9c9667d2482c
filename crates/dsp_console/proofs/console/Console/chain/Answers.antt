use Rattle.std.proofs.Common.{ap, subst}
use Rattle.channel_spec.specs.Calls.Call.{Chain}
use Rattle.voice_channel.specs.Channels as channels
use Rattle.console_spec.specs.Told.{told_by}
use Rattle.voice_script.specs.Replies.{Done}
use Rattle.voice_script.specs.Served.{Tell}
use Rattle.dsp_console.proofs.Served.{called}
use Rattle.dsp_console.proofs.console.Console.chain.Goals as goal

pub returns-clause-asks : goal.returns-clause-asks
returns-clause-asks g c =
    called g.M.Ialg.law (λ a. Chain c.args.c c.args.members.now.numbers.items a) (λ a. Tell (told_by (λ _. Done) a)) c.chain.result _ _ _
    (subst (λ is. channels.ChannelsCallRefines g.M.Ialg.law (Chain c.args.c is c.chain.result) c.args.self.now.channels c.chain.new.self) c.as_slice.ensures.value c.chain.ensures.machine)
    (ap Tell c.tell_done.ensures)
