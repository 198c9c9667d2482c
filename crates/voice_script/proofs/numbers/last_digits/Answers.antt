use Rattle.std.proofs.Common.{◌≡◌, false, true, get_or, sym, ◌∙◌, arith}
use Rattle.std.specs.Char.{is_ascii_digit}
use Rattle.voice_script.specs.Script.{is_blank}
use Rattle.voice_script.proofs.DigitLemmas.{ends_there}
use Rattle.voice_script.proofs.numbers.last_digits.Goals.{else-count-gt0-via-then-count-gt0+else-is_blank, else-count-gt0-via-else-count-gt0}
use Rattle.voice_script.proofs.numbers.last_digits.Goals as goal

pub returns-else-count-gt0-clause-short : goal.returns-else-count-gt0-clause-short
returns-else-count-gt0-clause-short c count number =
    let inside = c.loop-count-test.true in
    let some = number.some in
    let other : is_ascii_digit (get_or c.args.line.now c.loop-count.count 0) ≡ false = sym c.is_ascii_digit.ensures.value ∙ c.if-not-is_ascii_digit.true in
    let there : count ≡ c.loop-count.count = ends_there c.args.line.now c.loop-count.count count inside c.loop-count.invariant.digits other number in
    let blank : is_blank (get_or c.args.line.now c.loop-count.count 0) ≡ true = rw there at (number.end (omega (arith, there, inside))) in
    elim c.else-count-gt0.branch [
      | else-count-gt0-via-then-count-gt0+else-is_blank w ↦ let never = sym blank ∙ sym w.is_blank.ensures ∙ w.if-is_blank.false in absurd cc
      | else-count-gt0-via-else-count-gt0 w ↦ let none = w.if-count-gt0.false in omega (arith, some, there, none)
    ]
