use Rattle.std.proofs.Common.{◌<◌, ℕ, FitsSigned, w16}
use Rattle.ialg.specs.History.{word_at}
use Rattle.fir_kernel.proofs.windows.read_words.Given as goal

abbrev pub invariant-loop-word : goal.invariant-loop-word
invariant-loop-word l = (k : ℕ) → k < l.word-index → FitsSigned w16 (word_at l.words k)
