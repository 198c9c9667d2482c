use Rattle.std.proofs.Common.{rules}
use Rattle.voice_script.proofs.width.Width.octets_of.Goals as goal

pub returns-in-Octet-clause-count : goal.returns-in-Octet-clause-count
returns-in-Octet-clause-count c = search rules
