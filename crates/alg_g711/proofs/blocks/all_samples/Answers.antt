use Rattle.std.proofs.Common.{◌∙◌, ap, length}
use Rattle.alg_g711.specs.declared.companding.Law.TheVariants.{A, Mu}
use Rattle.alg_g711.proofs.Computed.{a_samples, mu_samples}
use Rattle.alg_g711.proofs.Outputs.{length-samples_of_codes}
use Rattle.alg_g711.proofs.blocks.all_samples.Goals as goal

pub returns-in-A-clause-samples : goal.returns-in-A-clause-samples
returns-in-A-clause-samples c = rw c.in-A.is a_samples

pub returns-in-A-clause-count : goal.returns-in-A-clause-count
returns-in-A-clause-count c = ap length a_samples ∙ length-samples_of_codes A

pub returns-in-Mu-clause-samples : goal.returns-in-Mu-clause-samples
returns-in-Mu-clause-samples c = rw c.in-Mu.is mu_samples

pub returns-in-Mu-clause-count : goal.returns-in-Mu-clause-count
returns-in-Mu-clause-count c = ap length mu_samples ∙ length-samples_of_codes Mu
