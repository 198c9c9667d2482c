-- A number of few digits.
use Rattle.std.proofs.Common.{◌≡◌, ◌≤◌, ◌<◌, ◌+◌, ◌-◌, ◌*◌, ◌^◌, ℕ, zero, suc, true, false, List, [], ◌∷◌, length, take, get_or, sym, ◌∙◌, lit<, add-one, arith}
use Rattle.std.proofs.Math.Nat.{pow-succ', pow-le-pow_right}
use Rattle.std.proofs.lemmas.Bool.{and_parts}
use Rattle.std.proofs.lemmas.Bool.Decides.{nat_tests}
use Rattle.std.specs.List.{list_all}
use Rattle.std.specs.Char.{is_ascii_digit}
use Rattle.voice_script.specs.Script.{is_blank}
use Rattle.voice_script.specs.Readings.{HasShortNumber}

-- one digit more
pub below-more : (n value digit : ℕ) → value < 10 ^ n → is_ascii_digit digit ≡ true → 10 * value + (digit - 48) < 10 ^ (n + 1)
below-more n value digit below is_digit =
    let e = pow-succ' 10 n in
    let most : digit - 48 ≤ 9 = grind (arith, nat_tests) in
    rw (add-one n) (omega (arith, e, below, most))

pub below-few : (n value : ℕ) → value < 10 ^ n → n ≤ 5 → value < 100_000
below-few n value below few =
    let within = pow-le-pow_right {n = 10} (lit< tt) few in
    omega (arith, below, within)

-- each of the digits that a line begins with is one
digit_at : (line : List ℕ) (count n : ℕ) → n < count → count ≤ length line → list_all is_ascii_digit (take count line) ≡ true → is_ascii_digit (get_or line n 0) ≡ true
digit_at line zero n within all digits = absurd (omega (arith, within))
digit_at [] (suc count) n within all digits = absurd (omega (arith, all))
digit_at (b ∷ line) (suc count) zero within all digits = (and_parts _ _ digits).0
digit_at (b ∷ line) (suc count) (suc n) within all digits = digit_at line count n (omega (arith, within)) (omega (arith, all)) (and_parts _ _ digits).1

blank_no_digit : (b : ℕ) → is_blank b ≡ true → is_ascii_digit b ≡ true → ⊥
blank_no_digit b blank digit = grind (arith, nat_tests)

-- a number that a line begins with ends no earlier than its digits
pub no_earlier : (line : List ℕ) (count n : ℕ) → n < count → count ≤ length line → list_all is_ascii_digit (take count line) ≡ true → HasShortNumber line n → ⊥
no_earlier line count n within all digits b =
    blank_no_digit (get_or line n 0) (b.end (omega (arith, within, all))) (digit_at line count n within all digits)

-- and where these end
pub ends_there : (line : List ℕ) (count n : ℕ) → count < length line → list_all is_ascii_digit (take count line) ≡ true → is_ascii_digit (get_or line count 0) ≡ false
    → HasShortNumber line n → n ≡ count
ends_there line count n inside digits other b =
    let early : n < count → ⊥ = λ e. no_earlier line count n e (omega (arith, inside)) digits b in
    let late : count < n → ⊥ = λ l. (let never = sym other ∙ digit_at line n count l b.within b.digits in cc) in
    omega (arith, early, late)
