use Rattle.std.specs.Prelude.{◌++◌}
use Rattle.std.proofs.Common.{refl, ap, sym, ◌∙◌}
use Rattle.channel_spec.specs.Channels.{members_at, has_repeat}
use Rattle.channel_spec.specs.Cuts.{joined}
use Rattle.channel_spec.proofs.FeedLemmas.{feeds_flow, flows_lawful, flow_on, all_flow, alike_itself, alike_lawful, flows_agree, turns_agree}
use Rattle.channel_spec.proofs.cuts.cuts_do_not_show.Goals as goal

pub returns-clause-two : goal.returns-clause-two
returns-clause-two g c = λ kinds before between after whole channel xs ys first second out lawful once feeds further feeds_whole.
    let one = feeds_flow kinds before between channel xs first lawful feeds in
    let two = feeds_flow kinds between after channel ys second (flows_lawful kinds before between after channel xs ys first second lawful one) further in
    let agree = flows_agree kinds before after before whole channel (xs ++ ys) (xs ++ ys) (first ++ second) out (alike_itself kinds before) refl
    (flow_on kinds before between after channel xs ys first second once one two) (feeds_flow kinds before whole channel (xs ++ ys) out lawful feeds_whole) in
    (sym agree.0, agree.1)

pub returns-clause-any : goal.returns-clause-any
returns-clause-any g c = λ kinds one one_after other other_after channel cut other_cut out other_out lawful once alike feeds others same.
    flows_agree kinds one one_after other other_after channel (joined cut) (joined other_cut) out other_out alike same
    (all_flow kinds cut one one_after channel out lawful once feeds)
    (all_flow kinds other_cut other other_after channel other_out (alike_lawful kinds one one_after other other_after channel alike lawful)
    (ap (λ all. has_repeat (members_at all channel)) (sym alike.chained) ∙ once) others)

pub returns-clause-activity : goal.returns-clause-activity
returns-clause-activity g c = λ kinds one one_after other other_after channel cut other_cut out other_out lawful once apart alike active feeds others same.
    turns_agree kinds one one_after other other_after channel (joined cut) (joined other_cut) out other_out apart alike active same
    (all_flow kinds cut one one_after channel out lawful once feeds)
    (all_flow kinds other_cut other other_after channel other_out (alike_lawful kinds one one_after other other_after channel alike lawful)
    (ap (λ all. has_repeat (members_at all channel)) (sym alike.chained) ∙ once) others)
