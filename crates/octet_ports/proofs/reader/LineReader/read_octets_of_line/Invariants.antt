use Rattle.std.proofs.Common.{◌≡◌, false}
use Rattle.std.specs.List.{All}
use Rattle.octet_ports.specs.Lines.{IsNoFeed, behind}
use Rattle.octet_ports.proofs.Lines.{LineSoFar}
use Rattle.octet_ports.proofs.reader.LineReader.read_octets_of_line.Given as goal

abbrev pub invariant-octets : goal.invariant-octets
invariant-octets g l = record {
  ready : (g.S.PortIn.source l.script).failed ≡ false;
  came : LineSoFar g.row.MOST l.text.items l.long l.initial.self.left l.self.left (behind l.initial.self.octets (g.S.PortIn.source l.initial.script)) (behind l.self.octets (g.S.PortIn.source l.script));
  waits : (All IsNoFeed l.initial.self.octets → ⊥) → (l.script ≡ l.initial.script) × (All IsNoFeed l.self.octets → ⊥);
}

abbrev pub decreases-octets : goal.decreases-octets
decreases-octets g l = l.self.left
