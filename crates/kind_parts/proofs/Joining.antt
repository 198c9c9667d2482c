-- A Word32 is what its two words are joined to.
use Rattle.std.proofs.Common.{◌≡◌, ℕ, ℤ, pos, negsuc, ◌-◌, ◌/◌, ◌%◌, ◌<◌, ◌+ℤ◌, ◌-ℤ◌, ◌*ℤ◌, int_lt, if◌then◌else◌, refl, ap, ◌∙◌, arith}
use Rattle.std.proofs.lemmas.Bool.Decides.{nat_tests}
use Rattle.std.proofs.lemmas.Int.{ints}
use Rattle.std.specs.Int.{int_rem_euclid}
use Rattle.basic_op.specs.Operators.{floor_div, extract_h_of, extract_l_of}
use Rattle.kind_parts.specs.Words.{joined}

-- the word of these lower bits, and these bits of it
abbrev word_of_bits : ℤ → ℤ
word_of_bits rest = if int_lt rest (pos 32768) then rest else rest -ℤ pos 65536

abbrev bits_of_word : ℤ → ℤ
bits_of_word low = if int_lt low (pos 0) then low +ℤ pos 65536 else low

bits_come_back : (r : ℕ) → r < 65536 → bits_of_word (word_of_bits (pos r)) ≡ pos r
bits_come_back r b = grind (arith, ints, nat_tests)

joined_bits : (v : ℤ) (r : ℕ) → r < 65536 → int_rem_euclid v (pos 65536) ≡ pos r → joined (extract_h_of v) (extract_l_of v) ≡ (floor_div v 65536 *ℤ pos 65536) +ℤ pos r
joined_bits v r b e = ap (λ rest. (floor_div v 65536 *ℤ pos 65536) +ℤ bits_of_word (word_of_bits rest)) e ∙ ap (λ low. (floor_div v 65536 *ℤ pos 65536) +ℤ low) (bits_come_back r b)

sum_pos : (n : ℕ) → (pos (n / 65536) *ℤ pos 65536) +ℤ pos (n % 65536) ≡ pos n
sum_pos n = omega (arith, ints)

sum_neg : (n : ℕ) → (negsuc (n / 65536) *ℤ pos 65536) +ℤ pos (65536 - 1 - n % 65536) ≡ negsuc n
sum_neg n = omega (arith, ints)

pub joined_parts : (v : ℤ) → joined (extract_h_of v) (extract_l_of v) ≡ v
joined_parts (pos n) = joined_bits (pos n) (n % 65536) (omega arith) refl ∙ sum_pos n
joined_parts (negsuc n) = joined_bits (negsuc n) (65536 - 1 - n % 65536) (omega arith) refl ∙ sum_neg n
