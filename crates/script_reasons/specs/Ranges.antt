-- The numbers of a line, and whether they are in their ranges.
use Rattle.std.specs.Prelude.{ℕ, Bool, List, ◌&&◌}
use Rattle.voice_script.specs.Script.{fits, is_number}
use Rattle.script_reasons.specs.declared.numbers.Range.{Range}

-- the word is a number of the range
abbrev pub is_in : Range → List ℕ → Bool
is_in range word = is_number word && fits range.least range.most word
