use Rattle.host_spaces.proofs.spaces.Spaces.make_move.Goals as goal

pub returns-in-Daram-clause-others : goal.returns-in-Daram-clause-others
returns-in-Daram-clause-others c = rw (c.in-Daram.is) c.make_move.ensures.others

pub returns-in-Saram-clause-others : goal.returns-in-Saram-clause-others
returns-in-Saram-clause-others c = rw (c.in-Saram.is) c.make_move-in-Saram.ensures.others

pub returns-in-External-clause-others : goal.returns-in-External-clause-others
returns-in-External-clause-others c = rw (c.in-External.is) c.make_move-in-External.ensures.others
