use Rattle.std.proofs.Common.{arith}
use Rattle.fir_kernel.proofs.Lanes.{all_fit}
use Rattle.fir_kernel.proofs.windows.read_words.Goals as goal

pub returns : goal.returns
returns c = all_fit c.args.words.now (λ k b. c.loop-word.invariant k (omega arith))
