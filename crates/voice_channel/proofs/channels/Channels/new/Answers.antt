use Rattle.std.proofs.Common.{[], replicate, sym}
use Rattle.voice_channel.proofs.Served.{held_of_none, unchained_at}
use Rattle.voice_channel.proofs.channels.Channels.new.Goals as goal

pub returns-clause-refines : goal.returns-clause-refines
returns-clause-refines g c = λ state kept. record {
  host = kept;
  chained = sym c.unchained.ensures;
  held = held_of_none (record { host = state; chained = replicate c.args.count [] }) (λ d. unchained_at c.args.count d);
}
