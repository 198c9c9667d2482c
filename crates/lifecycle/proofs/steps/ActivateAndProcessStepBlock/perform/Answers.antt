use Rattle.lifecycle.proofs.steps.ActivateAndProcessStepBlock.perform.Goals as goal

pub returns-clause-done : goal.returns-clause-done
returns-clause-done g c = (c.activate_and_process.ensures.loans.once, c.activate_and_process.ensures.law, c.activate_and_process.ensures.bounded)
