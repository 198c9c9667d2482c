use Rattle.test_memory.proofs.groups.memory.Goals as goal

pub returns-clause-size : goal.returns-clause-size
returns-clause-size g c = rw c.expect.ensures at c.make.ensures.region

pub returns-clause-whole : goal.returns-clause-whole
returns-clause-whole g c = rw c.expect.ensures at c.make.ensures.whole
