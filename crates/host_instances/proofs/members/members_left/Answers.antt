use Rattle.std.proofs.Common.{◌<◌, length, sym, ◌∙◌, arith}
use Rattle.host_instances.proofs.Belonging.{none_left, some_left}
use Rattle.host_instances.proofs.members.members_left.Goals as goal

pub returns : goal.returns
returns g c = sym (none_left c.args.instances.now.items c.args.g (λ j below. c.loop-i.invariant.none j (omega (arith, below, c.requires))))

pub returns-then-is_member : goal.returns-then-is_member
returns-then-is_member g c =
    let inside : c.loop-i.i < length c.args.instances.now.items = omega (arith, c.requires) in
    sym (some_left c.args.instances.now.items c.args.g c.loop-i.i inside (sym c.is_member.ensures ∙ c.if-is_member.true))
