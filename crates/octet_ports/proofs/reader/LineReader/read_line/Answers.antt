use Rattle.octet_ports.proofs.Ahead.{taken_came}
use Rattle.octet_ports.proofs.reader.LineReader.read_line.Goals as goal

pub returns-then-take_line-clause-ok : goal.returns-then-take_line-clause-ok
returns-then-take_line-clause-ok g c =
    taken_came c.take_line.new.text.items c.args.self.now c.take_line.new.self (g.S.PortIn.source c.args.script.now) (c.take_line.ensures.taken c.if-take_line.true)

pub returns-clause-waits : goal.returns-clause-waits
returns-clause-waits g c feed = c.read_octets_of_line.ensures.waits (rw (c.take_line.ensures.nothing c.if-take_line.false).0 feed)
