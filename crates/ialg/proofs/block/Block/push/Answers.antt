use Rattle.std.proofs.Common.{◌<◌, ◌∙◌, FitsSigned, w16, length, take, [], ◌∷◌, ◌++◌, ap, arith, rules, length-append, length-take-le}
use Rattle.std.proofs.lemmas.Int.{to_z-of_z}
use Rattle.arrayvec.specs.ArrayVec.{array_vec_len}
use Rattle.ialg.proofs.Blocks.{pushed}
use Rattle.ialg.proofs.block.Block.push.Goals as goal

pub returns-clause-items : goal.returns-clause-items
returns-clause-items c =
    let inside = c.self.inside in
    let fits : FitsSigned w16 c.args.sample = search rules in
    let kept = length-take-le inside.len inside.words.items (omega arith) in
    let same = ap array_vec_len c.self.view_is in
    let room : inside.len < array_vec_len inside.words = omega (arith, kept, same) in
    rw (← c.self.view_is)
    (pushed inside.words c.as_mut_slice.result.now inside.len _ c.as_mut_slice.ensures.value room ∙ ap (λ x. take inside.len inside.words.items ++ x ∷ []) (to_z-of_z w16 c.args.sample fits))

pub returns-clause-len : goal.returns-clause-len
returns-clause-len c = ap length (returns-clause-items c) ∙ length-append c.args.self.now.items (c.args.sample ∷ [])
