use Rattle.std.proofs.Common.{◌≡◌, ◌++◌, ◌∷◌, [], ◌∙◌, take, suc, pos, add-one, FitsSigned, rules, w16, w32, ap, sym}
use Rattle.std.proofs.Math.Seq.{take-suc}
use Rattle.std.proofs.lemmas.Int.{to_z-of_z}
use Rattle.ialg.specs.History.{word_at}
use Rattle.kind_steps.specs.Steppings.{onto}
use Rattle.kind_steps.proofs.Steppings.{onto_more}
use Rattle.alg_activity.specs.Equation.{energy_of, with_square}
use Rattle.alg_activity.proofs.kernel.energy.Goals as goal

pub loop-x-preserved : goal.loop-x-preserved
loop-x-preserved c =
    let s = c.args.shift in
    let xs = c.args.samples.now in
    let i = c.loop-x.x-index in
    let x = word_at xs i in
    let fx : FitsSigned w16 x = search rules in
    let fe : FitsSigned w32 c.with_square-energy.result = search rules in
    let es = to_z-of_z w16 s c.ranges.shift in
    let squared = rw (es, to_z-of_z w16 x fx) at c.with_square-energy.ensures in
    let before = rw es at c.loop-x.invariant in
    let front : take (suc i) xs ≡ take i xs ++ x ∷ [] = take-suc xs i (pos 0) c.loop-x-test.true in
    let more : onto (take (suc i) xs) [] ≡ x ∷ onto (take i xs) [] = ap (λ t. onto t []) front ∙ onto_more (take i xs) x [] in
    rw (es, add-one) (to_z-of_z w32 c.with_square-energy.result fe ∙ squared ∙ ap (with_square s x) before ∙ ap (energy_of s) (sym more))
