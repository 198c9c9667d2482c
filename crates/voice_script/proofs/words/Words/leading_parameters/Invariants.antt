use Rattle.std.proofs.Common.{◌≡◌, ◌+◌, ◌≤◌, ◌&&◌, ◌++◌, length, nat_le, map}
use Rattle.std.specs.List.{list_all}
use Rattle.ialg.specs.declared.TheConstants.{PARAMETER_WORDS}
use Rattle.voice_script.specs.Script.{is_number, value_of, fit_words}
use Rattle.voice_script.specs.Readings.{fits_word, to_come}
use Rattle.voice_script.proofs.words.Words.leading_parameters.Given as goal

-- the words so far are numbers and kept; what is kept, with those to come, is what all give
abbrev pub invariant-loop-number : goal.invariant-loop-number
invariant-loop-number l = record {
  few : length l.room.items ≤ PARAMETER_WORDS;
  numbers : list_all is_number (to_come l.fn.self) ≡ list_all is_number (to_come l.self);
  fits : fit_words (to_come l.fn.self) ≡ (nat_le (length l.room.items + length (to_come l.self)) PARAMETER_WORDS && list_all fits_word (to_come l.self));
  values : map value_of (to_come l.fn.self) ≡ l.room.items ++ map value_of (to_come l.self);
}

abbrev pub decreases-loop-number : goal.decreases-loop-number
decreases-loop-number l = length l.self.line.now
