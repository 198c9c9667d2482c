use Rattle.std.proofs.Common.{◌≡◌, rules, arith}
use Rattle.std.proofs.lemmas.List.{length-take-le}
use Rattle.octet_ports.proofs.Ports.{keeps_none, takes_appended, takes_nothing}
use Rattle.octet_ports.proofs.device.WritingPortOut.put.Goals as goal
use Rattle.octet_ports.proofs.device.WritingPortOut.put.Goals.{in_default-via-in-Ok+else-is_empty, in_default-via-in_default, then-count-gt0, else-count-gt0}

pub returns-in-Ok-clause-octets : goal.returns-in-Ok-clause-octets
returns-in-Ok-clause-octets g c =
    let old = c.args.self.now in
    takes_appended (g.W.Write.contents old.writer) (g.W.Write.contents c.write.new.self) _ old.waiting c.in-Ok.count old.failed
    c.in-Ok.ensures.bytes (length-take-le c.in-Ok.count c.args.octets.now c.in-Ok.ensures.bound)

pub returns-in_default-clause-fault : goal.returns-in_default-clause-fault
returns-in_default-clause-fault g c =
    let old = c.args.self.now in
    let before = g.W.Write.contents old.writer in
    let after = g.W.Write.contents c.write.new.self in
    elim c.in_default.branch [
      | in_default-via-in-Ok+else-is_empty w ↦
          let none : w.in-Ok.count ≡ 0 = elim w.if-count-gt0.branch [
            | then-count-gt0 w' ↦ absurd (search rules)
            | else-count-gt0 w' ↦ omega arith
          ] in
          let kept = keeps_none before after c.args.octets.now w.in-Ok.count w.in-Ok.ensures.bytes none in
          takes_nothing before after c.args.octets.now old.waiting old.failed kept
      | in_default-via-in_default w ↦ takes_nothing before after c.args.octets.now old.waiting old.failed w.in_default.ensures.bytes
    ]
