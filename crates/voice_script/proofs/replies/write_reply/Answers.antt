use Rattle.std.proofs.Common.{List, ℕ, [], ◌∷◌, ◌++◌, ap, ◌∙◌}
use Rattle.voice_script.proofs.replies.write_reply.Goals as goal

pub returns : goal.returns
returns c = c.push.ensures.items ∙ ap (λ (line : List ℕ). line ++ 10 ∷ []) c.push_line.ensures.line
