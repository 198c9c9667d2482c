use Rattle.std.proofs.Common.{◌≡◌, ◌+◌, ◌≤◌, true, ◌&&◌, ◌++◌, length, nat_le, map}
use Rattle.std.specs.List.{list_all}
use Rattle.ialg.specs.declared.TheConstants.{PARAMETER_WORDS}
use Rattle.voice_script.specs.Script.{is_number, value_of, fit_words}
use Rattle.voice_script.specs.Readings.{fits_word, to_come}
use Rattle.voice_script.proofs.words.Words.parameters.Given as goal

-- the words so far are numbers; what is kept, with those to come, is what all give
abbrev pub invariant-loop-word : goal.invariant-loop-word
invariant-loop-word l = record {
  can : (goal.iterator-loop-word).can_next l.word-iterator;
  ends : (goal.iterator-loop-word).is_finite l.word-iterator;
  few : length l.room.items ≤ PARAMETER_WORDS;
  numbers : list_all is_number (to_come l.fn.self) ≡ list_all is_number (to_come l.word-iterator);
  fits : fit_words (to_come l.fn.self) ≡ (l.fit && (nat_le (length l.room.items + length (to_come l.word-iterator)) PARAMETER_WORDS && list_all fits_word (to_come l.word-iterator)));
  values : l.fit ≡ true → map value_of (to_come l.fn.self) ≡ l.room.items ++ map value_of (to_come l.word-iterator);
}
