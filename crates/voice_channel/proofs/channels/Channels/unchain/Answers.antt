use Rattle.std.proofs.Common.{[], Ok, ◌∙◌, ap, set, sym}
use Rattle.host_spec.specs.Steps.{unless}
use Rattle.channel_spec.specs.Parts.{with_members}
use Rattle.channel_spec.specs.Calls.Call.{Unchain}
use Rattle.voice_channel.proofs.Chained.{given}
use Rattle.voice_channel.proofs.channels.Channels.unchain.Goals as goal

pub returns-clause-machine : goal.returns-clause-machine
returns-clause-machine g c =
    given g.M.Ialg.law
    (Unchain c.args.c (Ok tt)) c.args.c [] c.args.self.now c.set_members.new.self c.set_members.ensures.host
    (c.set_members.ensures.chained ∙ ap (set c.args.self.now.chained c.args.c) c.new.ensures)
    (λ before same host. ap (λ r. unless r before (Ok tt, with_members before c.args.c [])) (sym (c.refusal.ensures.refusal before same ∙ c.in_default.is)))
