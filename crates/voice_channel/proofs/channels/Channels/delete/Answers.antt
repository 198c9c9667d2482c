use Rattle.std.proofs.Common.{ℕ, ◌<◌, List, map, sym, ap, ◌∙◌, arith}
use Rattle.std.proofs.lemmas.Bool.{lt-ltb}
use Rattle.alg_host.specs.Hosts as hosts
use Rattle.channel_spec.specs.Channels.{is_in_channel}
use Rattle.voice_channel.specs.Channels.{ChannelsState}
use Rattle.voice_channel.proofs.Chained.{lives_alike, busy_delete, removed}
use Rattle.voice_channel.proofs.channels.Channels.delete.Goals as goal

pub returns-then-is_member-clause-machine : goal.returns-then-is_member-clause-machine
returns-then-is_member-clause-machine g c before keeps =
    let below : c.args.i < 64 = omega arith in (
      before,
      busy_delete before g.M.Ialg.law.meaning c.args.i (lt-ltb c.args.i 64 below)
          (lives_alike g.M.Ialg.law c.args.self.now.host before.host keeps.host c.args.i
          ∙ ap (λ (s : ChannelsState _). hosts.lives s.host c.args.i) (sym c.self.view_is) ∙ sym c.if-not-living.ensures.value)
          (ap (λ (x : List (List ℕ)). is_in_channel x c.args.i) keeps.chained ∙ sym c.if-is_member.ensures),
      keeps,
    )

pub returns-clause-machine : goal.returns-clause-machine
returns-clause-machine g c =
    removed g.M.Ialg.law
    c.args.i c.delete.result c.self.inside.host c.delete.new.self (map (λ m. m.items) c.self.inside.channels.items) c.args.self.now c.self.view_is
    (sym c.if-is_member.ensures) c.delete.ensures.machine
