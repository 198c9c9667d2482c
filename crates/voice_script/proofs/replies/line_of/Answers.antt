use Rattle.std.proofs.Common.{rules}
use Rattle.voice_script.proofs.replies.line_of.Goals as goal

pub returns-then-matches : goal.returns-then-matches
returns-then-matches c = search rules
