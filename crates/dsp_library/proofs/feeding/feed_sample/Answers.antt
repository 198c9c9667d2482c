use Rattle.std.proofs.Common.{◌≡◌, ◌∙◌, ℤ, List, [], ◌∷◌, length, take, drop, slice_index_or, to_z, of_z, refl, ap, subst, rules, arith, SFits, w16, w32}
use Rattle.std.proofs.Math.Facts.{to_z-of_z}
use Rattle.dsp_library.specs.Calls.FeedEnds.{Given, Refused}
use Rattle.dsp_library.proofs.feeding.feed_sample.Goals as goal

-- a list of one item
single : (xs : List ℤ) (default : ℤ) → length xs ≡ 1 → xs ≡ slice_index_or xs 0 default ∷ []
single [] default one = absurd (omega (arith, one))
single (x ∷ []) default one = refl
single (x ∷ y ∷ xs) default one = absurd (omega (arith, one))

pub returns-in-Err-clause-ends : goal.returns-in-Err-clause-ends
returns-in-Err-clause-ends c =
    Refused c.in-Err.why (to_z-of_z {w = w32} (record { sfits = c.code.type_inv }) ∙ c.code.ensures) c.in-Err.ensures.machine

pub returns-in-Some-clause-ends : goal.returns-in-Some-clause-ends
returns-in-Some-clause-ends c =
    let fits : SFits w16 c.in-Some.told = search rules in
    let sample : to_z w16 (of_z w16 c.args.sample) ≡ c.args.sample = to_z-of_z {w = w16} c.ranges.sample in
    let told : to_z w16 (of_z w16 c.in-Some.told) ≡ c.in-Some.told = to_z-of_z {w = w16} fits in
    Given (c.in-Some.told ∷ []) refl refl (ap (λ y. y ∷ []) told) refl (rw sample at c.in-Some.ensures.told)

pub returns-in-None-clause-ends : goal.returns-in-None-clause-ends
returns-in-None-clause-ends c =
    let given : List ℤ = c.feed_sample.new.out.items in
    let written : List ℤ = c.write_first.new.out in
    let its = c.as_slice-given.ensures.value in
    let sample : to_z w16 (of_z w16 c.args.sample) ≡ c.args.sample = to_z-of_z {w = w16} c.ranges.sample in
    let one : written ≡ slice_index_or written 0 c.args.out.now ∷ [] = single written c.args.out.now (c.write_first.auto.out ∙ c.from_mut.ensures.len) in
    let first : take (length given) written ≡ given = subst (λ (xs : List ℤ). take (length xs) written ≡ xs) its c.write_first.ensures.given in
    let rest : drop (length given) written ≡ drop (length given) c.from_mut.result.now =
    subst (λ (xs : List ℤ). drop (length xs) written ≡ drop (length xs) c.from_mut.result.now) its c.write_first.ensures.rest in
    Given given refl (ap length its)
    (subst (λ (o : List ℤ). take (length given) o ≡ given) one first)
    (subst (λ (x : List ℤ × List ℤ). drop (length given) x.0 ≡ drop (length given) x.1) (λ j. (one j, c.from_mut.ensures.value j)) rest)
    (rw sample at c.in-None.ensures.machine)
