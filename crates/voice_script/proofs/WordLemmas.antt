-- Words of a line.
use Rattle.std.proofs.Common.{◌≡◌, ◌≢◌, ◌≤◌, ◌<◌, ◌+◌, ◌-◌, ℕ, zero, suc, true, false, List, [], ◌∷◌, ◌++◌, length, take, drop, get_or, eqb, cond, All, inl, inr, refl, sym, ap, ◌∙◌, subst, arith}
use Rattle.std.proofs.lemmas.Int.{ints}
use lib.IntN.{pos, neg_ℤ, ◌-ℤ◌}
use mir.Syntax.{w32}
use mir.Val.{to_z, of_z}
use Rattle.std.proofs.lemmas.Grind.{common_steps}
use Rattle.std.proofs.Math.Nat.{eq-or-lt_of_le}
use Rattle.std.proofs.lemmas.Bool.{and_parts}
use Rattle.std.proofs.lemmas.List.Elements.{All-nil, All-cons}
use Rattle.std.specs.List.{list_all}
use Rattle.std.specs.Char.{is_ascii_digit}
use Rattle.std.proofs.lemmas.Bool.Decides.{nat_tests}
use Rattle.std.proofs.lemmas.List.Splits.{slice_split_at, slice_split_none}
use Rattle.voice_script.specs.Script.{is_empty, without_return, is_blank, words_of, is_number, value_of}
use Rattle.voice_script.specs.Readings.{IsNoBlank, PartsAtBlank, BeginsWithDigits, Limits}
use Rattle.voice_script.specs.declared.limits.TheConstants.{GREATEST_MAGNITUDE}

pub is_empty-length : (xs : List ℕ) → eqb (length xs) 0 ≡ is_empty xs
is_empty-length [] = refl
is_empty-length (x ∷ xs) = grind (arith, nat_tests)

pub without_return-return : (text : List ℕ) → without_return (text ++ 13 ∷ []) ≡ text
without_return-return [] = refl
without_return-return (b ∷ []) = refl
without_return-return (b ∷ c ∷ text) = ap (λ t. b ∷ t) (without_return-return (c ∷ text))

pub without_return-other : (text : List ℕ) (last : ℕ) → last ≢ 13 → without_return (text ++ last ∷ []) ≡ text ++ last ∷ []
without_return-other [] last n = let e : eqb last 13 ≡ false = grind (arith, nat_tests) in rw e refl
without_return-other (b ∷ []) last n = ap (λ t. b ∷ t) (without_return-other [] last n)
without_return-other (b ∷ c ∷ text) last n = ap (λ t. b ∷ t) (without_return-other (c ∷ text) last n)

-- the words of a line up to a blank, and of the rest
pub words_of-parts : (line word after : List ℕ) → PartsAtBlank line word after
    → words_of line ≡ cond (is_empty word) (words_of after) (word ∷ words_of after)
words_of-parts line [] after p =
    rw p.parts (rw (slice_split_at is_blank [] p.blank after p.no_blanks p.is_blank) refl)
words_of-parts line (w ∷ ws) after p =
    rw p.parts (rw (slice_split_at is_blank (w ∷ ws) p.blank after p.no_blanks p.is_blank) refl)

-- the words of a line with no blank
pub words_of-last : (line : List ℕ) → All IsNoBlank line → words_of line ≡ cond (is_empty line) [] (line ∷ [])
words_of-last [] a = refl
words_of-last (b ∷ bs) a = rw (slice_split_none is_blank (b ∷ bs) a) refl

no_blank : (b : ℕ) → is_ascii_digit b ≡ true → is_blank b ≡ false
no_blank b digit = grind (arith, nat_tests)

no_blanks : (ds : List ℕ) → list_all is_ascii_digit ds ≡ true → All IsNoBlank ds
no_blanks [] digits = All-nil IsNoBlank
no_blanks (d ∷ ds) digits = All-cons IsNoBlank d ds (no_blank d (and_parts _ _ digits).0) (no_blanks ds (and_parts _ _ digits).1)

some_first : (n : ℕ) (line : List ℕ) → 1 ≤ n → n ≤ length line → is_empty (take n line) ≡ false
some_first zero line some within = absurd (omega arith)
some_first (suc n) [] some within = absurd (omega arith)
some_first (suc n) (b ∷ line) some within = refl

parted : (n : ℕ) (line : List ℕ) → n < length line → line ≡ take n line ++ get_or line n 0 ∷ drop (n + 1) line
parted n line within = grind (arith, common_steps)

all_taken : (n : ℕ) (line : List ℕ) → n ≡ length line → take n line ≡ line
all_taken n line e = grind (arith, common_steps)

none_left : (n : ℕ) (line : List ℕ) → n ≡ length line → drop (n + 1) line ≡ []
none_left n line e = grind (arith, common_steps)

-- the first of the words is the line's first octets, where these have no blank and one follows, or the line ends
words_of-front : (line : List ℕ) (n : ℕ) → 1 ≤ n → n ≤ length line → All IsNoBlank (take n line) → (n < length line → is_blank (get_or line n 0) ≡ true)
    → words_of line ≡ take n line ∷ words_of (drop (n + 1) line)
words_of-front line n some within none end = elim (eq-or-lt_of_le within) [
  | inl whole ↦
      let all = all_taken n line whole in
      let text : is_empty line ≡ false = subst (λ w. is_empty w ≡ false) all (some_first n line some within) in
      words_of-last line (subst (λ w. All IsNoBlank w) all none)
      ∙ rw (text, none_left n line whole, all) refl
  | inr inside ↦
      words_of-parts line (take n line) (drop (n + 1) line)
      (record { blank = get_or line n 0; is_blank = end inside; no_blanks = none; parts = parted n line inside })
      ∙ rw (some_first n line some within) refl
]

-- the first of the words are the digits that the line begins with
pub words_of-digits : (line : List ℕ) (n value : ℕ) → BeginsWithDigits line n value → words_of line ≡ take n line ∷ words_of (drop (n + 1) line)
words_of-digits line n value b = words_of-front line n b.some b.within (no_blanks (take n line) b.digits) b.end

behind_first : (b : ℕ) (line : List ℕ) → take (length (b ∷ line) - 1) (drop 1 (b ∷ line)) ≡ line
behind_first b line = grind (arith, common_steps)

more_taken : (b n : ℕ) (line : List ℕ) → take (n + 1) (b ∷ line) ≡ b ∷ take n line
more_taken b n line = grind (arith, common_steps)

more_read : (b n : ℕ) (line : List ℕ) → get_or (b ∷ line) (n + 1) 0 ≡ get_or line n 0
more_read b n line = grind (arith, common_steps)

-- the same, with a minus before the digits
pub words_of-minus : (line : List ℕ) (n value : ℕ) → 1 ≤ length line → get_or line 0 0 ≡ 45 → BeginsWithDigits (take (length line - 1) (drop 1 line)) n value
    → words_of line ≡ take (n + 1) line ∷ words_of (drop (n + 1 + 1) line)
words_of-minus [] n value some minus digits = absurd (omega (arith, some))
words_of-minus (b ∷ line) n value some minus digits =
    let d : BeginsWithDigits line n value = subst (λ ds. BeginsWithDigits ds n value) (behind_first b line) digits in
    let w = d.within in
    words_of-front (b ∷ line) (n + 1) (omega arith) (omega (arith, w))
    (subst (λ w. All IsNoBlank w) (sym (more_taken b n line)) (rw minus (All-cons IsNoBlank 45 (take n line) refl (no_blanks (take n line) d.digits)))) (λ inside. rw (more_read b n line) (d.end (omega (arith, inside))))

-- and they are a number
minus_taken : (line : List ℕ) (n : ℕ) → 1 ≤ length line → get_or line 0 0 ≡ 45 → take (n + 1) line ≡ 45 ∷ take n (take (length line - 1) (drop 1 line))
minus_taken [] n some minus = absurd (omega (arith, some))
minus_taken (b ∷ line) n some minus = more_taken b n line ∙ rw (behind_first b line, minus) refl

pub is_number-minus : (line : List ℕ) (n value : ℕ) → 1 ≤ length line → get_or line 0 0 ≡ 45 → BeginsWithDigits (take (length line - 1) (drop 1 line)) n value
    → is_number (take (n + 1) line) ≡ true
is_number-minus line n value some minus digits =
    rw (minus_taken line n some minus) (rw (some_first n (take (length line - 1) (drop 1 line)) digits.some digits.within, digits.digits) refl)

negated : (value : ℕ) → value ≤ GREATEST_MAGNITUDE → Limits (neg_ℤ (pos value)) (to_z w32 (of_z w32 (pos 0 -ℤ to_z w32 value)))
negated value most = record {
  within = λ from to. omega (arith, ints);
  below = λ less. omega (arith, ints);
  above = λ more. omega (arith, ints);
}

pub limits-minus : (line : List ℕ) (n value : ℕ) → 1 ≤ length line → get_or line 0 0 ≡ 45 → BeginsWithDigits (take (length line - 1) (drop 1 line)) n value
    → Limits (value_of (take (n + 1) line)) (to_z w32 (of_z w32 (pos 0 -ℤ to_z w32 value)))
limits-minus line n value some minus digits =
    rw (minus_taken line n some minus) (rw (sym digits.valued) (negated value digits.most))
