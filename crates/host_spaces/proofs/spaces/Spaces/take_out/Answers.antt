use Rattle.host_spaces.proofs.spaces.Spaces.take_out.Goals as goal

pub returns-in-Daram-clause-others : goal.returns-in-Daram-clause-others
returns-in-Daram-clause-others c = rw (c.in-Daram.is) c.take_out.ensures.others

pub returns-in-Saram-clause-others : goal.returns-in-Saram-clause-others
returns-in-Saram-clause-others c = rw (c.in-Saram.is) c.take_out-in-Saram.ensures.others

pub returns-in-External-clause-others : goal.returns-in-External-clause-others
returns-in-External-clause-others c = rw (c.in-External.is) c.take_out-in-External.ensures.others
