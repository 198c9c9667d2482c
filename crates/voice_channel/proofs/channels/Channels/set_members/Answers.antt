use Rattle.std.proofs.Common.{ap, ◌∙◌, set}
use Rattle.voice_channel.proofs.Chained.{written}
use Rattle.voice_channel.proofs.channels.Channels.set_members.Goals as goal

pub returns-clause-chained : goal.returns-clause-chained
returns-clause-chained g c =
    written (λ m. m.items) c.self.inside.channels.items c.deref_mut.result.now c.args.c c.args.members c.deref_mut.ensures.value
    ∙ ap (λ s. set s.chained c.args.c c.args.members.items) c.self.view_is
