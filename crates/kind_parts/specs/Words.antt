-- Words of parameters and of states.
use Rattle.std.specs.Prelude.{ℤ, pos, List, [], ◌∷◌, ◌+ℤ◌, ◌*ℤ◌, int_lt, if◌then◌else◌}
use Rattle.basic_op.specs.Operators.{extract_h_of, extract_l_of}

-- what the lower of two words counts: its bits, without a sign
abbrev pub lower_of : ℤ → ℤ
lower_of low = if int_lt low (pos 0) then low +ℤ pos 65536 else low

-- the Word32 of its upper and its lower word
abbrev pub joined : ℤ → ℤ → ℤ
joined high low = (high *ℤ pos 65536) +ℤ lower_of low

-- the words that keep a sum of 32 bits
abbrev pub sum_words : ℤ → List ℤ
sum_words sum = extract_h_of sum ∷ extract_l_of sum ∷ []
