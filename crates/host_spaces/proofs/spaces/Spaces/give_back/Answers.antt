use Rattle.host_spaces.proofs.spaces.Spaces.give_back.Goals as goal

pub returns-in-Daram-clause-others : goal.returns-in-Daram-clause-others
returns-in-Daram-clause-others c = rw (c.in-Daram.is) c.give_back.ensures.others

pub returns-in-Saram-clause-others : goal.returns-in-Saram-clause-others
returns-in-Saram-clause-others c = rw (c.in-Saram.is) c.give_back-in-Saram.ensures.others

pub returns-in-External-clause-others : goal.returns-in-External-clause-others
returns-in-External-clause-others c = rw (c.in-External.is) c.give_back-in-External.ensures.others
