use Rattle.std.proofs.Common.{ℕ, ◌≡◌, ◌<◌, arith, get_or}
use Rattle.octet_ports.specs.Lines.{IsNoFeed}
use Rattle.octet_ports.proofs.Ahead.{begins_at}
use Rattle.octet_ports.proofs.reader.first_line.Goals as goal

pub returns : goal.returns
returns c =
    let xs = c.args.octets.now in
    let n = c.in_ok-end.end in
    let found = c.in_ok-end.ensures in
    let is = found.1 in
    let feed : get_or xs n 0 ≡ 10 = grind (arith, is) in
    let before : (k : ℕ) → k < n → IsNoFeed (get_or xs k 0) = λ k less feeds. found.0.before k (omega arith) less (grind (arith, feeds)) in
    begins_at xs n found.0.high feed before
