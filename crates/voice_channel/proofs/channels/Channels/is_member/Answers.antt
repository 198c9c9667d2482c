use Rattle.std.proofs.Common.{ap, ◌∙◌}
use Rattle.std.specs.List.{list_any}
use Rattle.channel_spec.specs.Channels.{has_number, is_in_channel}
use Rattle.voice_channel.proofs.Chained.{any_of_map}
use Rattle.voice_channel.proofs.channels.Channels.is_member.Goals as goal

pub returns : goal.returns
returns g c =
    c.is_in_one.ensures
    ∙ ap (list_any (λ m. has_number m.items c.args.i)) c.deref.ensures.0
    ∙ any_of_map (λ is. has_number is c.args.i) (λ m. m.items) c.self.inside.channels.items
    ∙ ap (λ s. is_in_channel s.chained c.args.i) c.self.view_is
