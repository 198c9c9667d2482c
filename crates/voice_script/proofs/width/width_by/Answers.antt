use Rattle.std.proofs.Common.{arith}
use Rattle.voice_script.proofs.WidthLemmas.{word_where_unset, word_where_far}
use Rattle.voice_script.proofs.width.width_by.Goals.{else-from-lt-BITS-via-then-from-lt-BITS+else-mask-channel-eq1, else-from-lt-BITS-via-else-from-lt-BITS}
use Rattle.voice_script.proofs.width.width_by.Goals as goal

pub returns-else-from-lt-BITS : goal.returns-else-from-lt-BITS
returns-else-from-lt-BITS c = elim c.else-from-lt-BITS.branch [
  | else-from-lt-BITS-via-then-from-lt-BITS+else-mask-channel-eq1 w ↦ word_where_unset c.args.mask c.args.channel w.if-mask-channel-eq1.false
  | else-from-lt-BITS-via-else-from-lt-BITS w ↦ word_where_far c.args.mask c.args.channel (omega (arith, c.ranges.mask)) (omega (arith, c.from.ensures, w.if-from-lt-BITS.false))
]
