use Rattle.std.proofs.Common.{◌≡◌, ◌++◌, ◌∷◌, [], rules, drop, ap, ◌∙◌}
use Rattle.std.proofs.lemmas.Int.{to_z-of_z}
use mir.Val.{SFits, to_z, of_z}
use mir.Syntax.{w16}
use Rattle.kind_parts.specs.declared.framing.TheConstants.{COUNT}
use Rattle.kind_parts.proofs.Framings.{empty_frame}
use Rattle.kind_parts.proofs.framing.finish.Goals as goal

pub returns-then-words-p-clause-full : goal.returns-then-words-p-clause-full
returns-then-words-p-clause-full g c k xs e full =
    let F = g.K.Framing in
    let p = c.args.p.now in
    let y = c.tell.result in
    let fy : SFits w16 y = search rules in
    let ey : to_z w16 (of_z w16 y) ≡ y = to_z-of_z w16 y fy in
    let pushed = rw ey at c.push.ensures.items in
    let told = c.tell.ensures xs (c.split_at.ensures.back ∙ ap (drop COUNT) e) in (
      empty_frame F.state_of F.STATE_WORDS g.met.K.Framing.begins p c.clear.new.words (c.clear.auto.words ∙ c.requires.size) c.clear.ensures,
      pushed ∙ ap (λ z. c.args.out.now.items ++ z ∷ []) told,
    )
