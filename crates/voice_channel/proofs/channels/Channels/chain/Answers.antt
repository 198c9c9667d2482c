use Rattle.std.proofs.Common.{Ok, ◌∙◌, ap, set, sym}
use Rattle.host_spec.specs.Steps.{unless}
use Rattle.channel_spec.specs.Parts.{with_members}
use Rattle.channel_spec.specs.Calls.Call.{Chain}
use Rattle.voice_channel.proofs.Chained.{all_live_alike, given}
use Rattle.voice_channel.proofs.channels.Channels.chain.Goals as goal

pub returns-clause-machine : goal.returns-clause-machine
returns-clause-machine g c =
    given g.M.Ialg.law
    (Chain c.args.c c.args.members.now (Ok tt)) c.args.c c.args.members.now c.args.self.now c.set_members.new.self c.set_members.ensures.host
    (c.set_members.ensures.chained ∙ ap (set c.args.self.now.chained c.args.c) c.kept.ensures)
    (λ before same host. ap (λ r. unless r before (Ok tt, with_members before c.args.c c.args.members.now))
    (sym (c.chaining_refusal.ensures.refusal before same
    (all_live_alike g.M.Ialg.law c.args.self.now.host before.host host c.args.members.now) ∙ c.in_default.is)))
