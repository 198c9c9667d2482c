use Rattle.std.proofs.Common.{◌≡◌, [], length, map, replicate}
use Rattle.voice_channel.proofs.channels.unchained.Given as goal

abbrev pub invariant-loop : goal.invariant-loop
invariant-loop l = (map (λ m. m.items) l.channels.items ≡ replicate l.counter []) × (length l.channels.items ≡ l.counter)
