use Rattle.channel_spec.proofs.AlikeLemmas.{control_agrees}
use Rattle.channel_spec.proofs.cuts.controls_agree_where_all_is_alike.Goals as goal

pub returns : goal.returns
returns g c = λ kinds one one_after other other_after i ctl answer other_answer lawful alike does others.
    control_agrees kinds i ctl one other alike one_after other_after answer other_answer lawful does others
