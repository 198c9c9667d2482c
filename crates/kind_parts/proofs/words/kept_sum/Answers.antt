use Rattle.std.proofs.Common.{◌≡◌, ap, rules, ◌∙◌}
use Rattle.std.proofs.lemmas.Int.{to_z-of_z}
use mir.Val.{SFits, to_z, of_z}
use mir.Syntax.{w16, w32}
use Rattle.ialg.specs.History.{word_at}
use Rattle.kind_parts.specs.Words.{joined}
use Rattle.kind_parts.proofs.Joining.{joined_parts}
use Rattle.kind_parts.proofs.words.kept_sum.Goals as goal

pub returns : goal.returns
returns c sum e =
    let words = c.args.words.now in
    let f0 : SFits w16 (word_at words 0) = search rules in
    let f1 : SFits w16 (word_at words 1) = search rules in
    let e0 : to_z w16 (of_z w16 (word_at words 0)) ≡ word_at words 0 = to_z-of_z w16 (word_at words 0) f0 in
    let e1 : to_z w16 (of_z w16 (word_at words 1)) ≡ word_at words 1 = to_z-of_z w16 (word_at words 1) f1 in
    let joint = rw (e0, e1) at c.join.ensures in
    let fr : SFits w32 c.join.result = search rules in
    let er : to_z w32 (of_z w32 c.join.result) ≡ c.join.result = to_z-of_z w32 c.join.result fr in
    er ∙ joint ∙ ap (λ ws. joined (word_at ws 0) (word_at ws 1)) e ∙ joined_parts sum
