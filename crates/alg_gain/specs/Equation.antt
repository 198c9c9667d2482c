-- The output of a gain over the whole history of an instance. The parameter is g in Q12.
use Rattle.std.specs.Prelude.{ℤ, pos, Bool, ◌==◌, List, length}
use Rattle.basic_op.specs.Operators.{l_mult_of, l_shl_of, round_of}
use Rattle.ialg.specs.History.{History, word_at}
use Rattle.kind_parts.specs.Mappings.{gives_by_map}

-- by so many bits the product of a factor in Q12 and a sample in Q15, which is in Q28 when it is doubled, goes to Q31
abbrev pub factor_shift : ℤ
factor_shift = pos 3

-- the words are a factor
abbrev pub is_factor : List ℤ → Bool
is_factor words = length words == 1

-- g x
abbrev pub amplified : List ℤ → ℤ → ℤ
amplified words x = round_of (l_shl_of (l_mult_of (word_at words 0) x) factor_shift)

-- what the newest sample gives: the factor in force times it
abbrev pub gain_gives : List ℤ → History → List ℤ
gain_gives p h = gives_by_map amplified p h
