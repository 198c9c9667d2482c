use Rattle.std.proofs.Common.{rules}
use Rattle.host_table.proofs.life.free_idle.Goals as goal

pub returns : goal.returns
returns g c = record {
  own = rw c.replace.ensures.value c.freed-told.ensures.did.same.own;
  seen = c.freed-told.ensures.seen;
  shared = c.freed-told.ensures.did.pieces;
  once = c.freed-told.ensures.did.written;
  left = search rules;
}
