use Rattle.std.proofs.Common.{◌≡◌, ◌<◌, ◌+◌, ◌∷◌, ◌++◌, [], suc, length, take, pos, ap, ◌∙◌, sym, add-one, rules}
use Rattle.std.proofs.Math.Seq.{take-suc}
use Rattle.std.proofs.lemmas.Int.{to_z-of_z}
use mir.Val.{SFits, to_z, of_z}
use mir.Syntax.{w16}
use Rattle.ialg.specs.History.{word_at}
use Rattle.test_doubles.proofs.clinging.exchange.Goals as goal

pub loop-sample-preserved : goal.loop-sample-preserved
loop-sample-preserved c =
    let xs = c.args.input.now in
    let all = c.args.place.now ∷ xs in
    let i = c.loop-sample.sample-index in
    let before = c.loop-sample.invariant in
    let fits : SFits w16 (word_at xs i) = search rules in
    let read : to_z w16 (of_z w16 (word_at xs i)) ≡ word_at xs i = to_z-of_z w16 (word_at xs i) fits in
    let kept : SFits w16 c.loop-sample.place = search rules in
    let stood : to_z w16 (of_z w16 c.loop-sample.place) ≡ c.loop-sample.place = to_z-of_z w16 c.loop-sample.place kept in
    let inside : i < length all = search rules in
    let step : i + 1 ≡ suc i = add-one i in
    let pushed = rw stood at c.push.ensures.items in
    record {
      given = pushed ∙ ap (λ ys. ys ++ c.loop-sample.place ∷ []) before.given
          ∙ ap (λ y. take i all ++ y ∷ []) before.left ∙ sym (take-suc all i (pos 0) inside) ∙ ap (λ n. take n all) (sym step);
      left = read ∙ ap (λ n. word_at all n) (sym step);
    }
