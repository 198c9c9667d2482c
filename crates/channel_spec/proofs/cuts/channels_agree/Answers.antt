use Rattle.std.proofs.Common.{sym, subst}
use Rattle.channel_spec.specs.Cuts.{joined}
use Rattle.channel_spec.proofs.FeedLemmas.{FlowsIn, all_flow}
use Rattle.channel_spec.proofs.AgreementLemmas.{members_agree}
use Rattle.channel_spec.proofs.cuts.channels_agree.Goals as goal

pub returns : goal.returns
returns g c = λ kinds one one_after other other_after channel beside cut other_cut out other_out lawful once nor_lawful nor same feeds others joint.
    members_agree kinds one one_after other other_after channel beside (joined cut) out other_out once nor same
    (all_flow kinds cut one one_after channel out lawful once feeds)
    (subst (λ block. FlowsIn kinds other beside block other_out other_after) (sym joint) (all_flow kinds other_cut other other_after beside other_out nor_lawful nor others))
