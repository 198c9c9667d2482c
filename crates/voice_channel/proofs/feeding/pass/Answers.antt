use Rattle.std.proofs.Common.{◌∷◌, ◌-◌, length, refl, get_or, take, drop}
use Rattle.voice_channel.proofs.Fed.{first_of_them, first_two_before}
use Rattle.voice_channel.proofs.feeding.pass.Goals as goal

pub returns-in-len2-up-clause-passes : goal.returns-in-len2-up-clause-passes
returns-in-len2-up-clause-passes g c =
    let members = c.args.members.now in
    first_of_them g.M.Ialg.law (get_or members 0 0) members (get_or members 1 0 ∷ take (length members - 2) (drop 2 members))
    c.args.block.now c.args.block.now c.run-in-len2-up.new.given.items c.pass_on.new.out.items c.args.host.now c.run-in-len2-up.new.host c.pass_on.new.host
    (first_two_before members c.in-len2-up.len_at_least) refl c.run-in-len2-up.ensures.passes c.pass_on.ensures.passes
