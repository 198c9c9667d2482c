use Rattle.std.proofs.Common.{◌≡◌, ◌∙◌, ap, map, subst}
use Rattle.channel_spec.specs.Channels.{members_at}
use Rattle.voice_channel.specs.Channels.{PassesThrough}
use Rattle.voice_channel.proofs.Fed.{fed}
use Rattle.voice_channel.proofs.channels.Channels.feed.Goals as goal

pub returns-clause-machine : goal.returns-clause-machine
returns-clause-machine g c =
    let its : c.members_of.result.now ≡ members_at c.args.self.now.chained c.args.c =
    c.members_of.ensures ∙ ap (λ xs. members_at (map (λ m. m.items) xs) c.args.c) c.deref.ensures.0
    ∙ ap (λ s. members_at s.chained c.args.c) c.self.view_is in
    fed g.M.Ialg.law c.args.c c.args.input.now
    c.pass.new.out.items c.args.self.now (record { host = c.pass.new.host; chained = map (λ m. m.items) c.self.inside.channels.items }) c.requires.ready
    (ap (λ s. s.chained) c.self.view_is)
    (subst
    (λ h. PassesThrough g.M.Ialg.law (members_at c.args.self.now.chained c.args.c) c.args.input.now c.pass.new.out.items h c.pass.new.host)
    (ap (λ s. s.host) c.self.view_is)
    (subst
    (λ is. PassesThrough g.M.Ialg.law is c.args.input.now c.pass.new.out.items c.self.inside.host c.pass.new.host)
    its c.pass.ensures.passes))
