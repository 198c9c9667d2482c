use Rattle.std.proofs.Common.{rules, ◌≡◌, ◌<◌, ◌%◌, ◌+◌, ◌+ℤ◌, List, [], ◌∷◌, length, pos, slice_set, ℤ, to_z, of_z, refl, ap, ◌∙◌, arith}
use Rattle.std.proofs.lemmas.Int.{wraps}
use Rattle.std.specs.Int.{w16, int_wrap}
use Rattle.ialg.specs.History.{word_at}
use Rattle.test_doubles.proofs.babbling.count_on.Goals as goal

first_set : (ws : List ℤ) (x : ℤ) → 0 < length ws → word_at (slice_set ws 0 x) 0 ≡ x
first_set [] x some = absurd (omega (arith, some))
first_set (w ∷ ws) x some = refl

pub returns-in-Some-clause-counted : goal.returns-in-Some-clause-counted
unfolding int_wrap
returns-in-Some-clause-counted c some =
    let first : c.in-Some.place.now ≡ word_at c.args.words.now 0 = search rules in
    let wrapped : to_z w16 ((of_z w16 c.in-Some.place.now + 1) % 65536) ≡ int_wrap w16 (c.in-Some.place.now +ℤ pos 1) = search (rules, wraps) in
    first_set c.args.words.now _ some ∙ wrapped ∙ ap (λ x. int_wrap w16 (x +ℤ pos 1)) first
