use Rattle.std.proofs.Common.{◌≡◌, false, get_or, inl, inr, sym, ◌∙◌, arith}
use Rattle.std.specs.Char.{is_ascii_digit}
use Rattle.voice_script.proofs.DigitLemmas.{ends_there}
use Rattle.voice_script.proofs.numbers.short_digits.Goals as goal

pub returns-else-count-gt0-clause-short : goal.returns-else-count-gt0-clause-short
returns-else-count-gt0-clause-short c count number =
    let inside = c.loop-count-test.true in
    let long = c.requires in
    let some = number.some in
    let other : is_ascii_digit (get_or c.args.line.now c.loop-count.count 0) ≡ false = sym c.is_ascii_digit.ensures.value ∙ c.if-not-is_ascii_digit.true in
    let there : count ≡ c.loop-count.count = ends_there c.args.line.now c.loop-count.count count (omega (arith, inside, long)) c.loop-count.invariant.digits other number in
    elim c.else-count-gt0.either [
      | inl no_space ↦ no_space.1 (rw there at (number.space long))
      | inr none ↦ omega (arith, some, there, none)
    ]
