use Rattle.std.proofs.Common.{◌∙◌, sym}
use Rattle.octet_ports.proofs.PassLemmas.{found_last, is_last}
use Rattle.octet_ports.proofs.journal.ends_line.Goals as goal

pub returns : goal.returns
returns c = (
  λ found. (_, found_last c.last.result _ c.args.octets.now c.last.ensures.value (sym c.eq.ensures ∙ found)),
  λ ends. c.eq.ensures ∙ is_last c.last.result _ c.args.octets.now ends.0 c.last.ensures.value ends.1,
)
