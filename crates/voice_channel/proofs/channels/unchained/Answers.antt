use Rattle.std.proofs.Common.{◌≡◌, arith}
use Rattle.voice_channel.proofs.channels.unchained.Goals as goal

pub returns : goal.returns
returns c =
    let whole : c.loop.counter ≡ c.args.count = omega arith in
    rw whole at c.loop.invariant.0
