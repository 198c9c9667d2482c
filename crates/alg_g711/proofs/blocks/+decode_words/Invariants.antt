use Rattle.std.proofs.Common.{length}
use Rattle.alg_g711.proofs.blocks.+decode_words.Given as goal

abbrev pub decreases-decode_words : goal.decreases-decode_words
decreases-decode_words l = length l.codes.now
