use Rattle.octet_ports.proofs.Ports.{known_of_sink}
use Rattle.octet_ports.proofs.device.Writing.into_inner.Goals as goal

pub returns : goal.returns
returns g c = known_of_sink (g.W.Write.contents c.args.self.writer) c.args.self.waiting c.args.self.failed
