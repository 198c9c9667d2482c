use Rattle.std.proofs.Common.{◌≡◌, ◌+◌, ◌≤◌, true, ◌&&◌, ◌++◌, length, nat_le, map}
use Rattle.std.specs.List.{list_all}
use Rattle.voice_script.specs.declared.limits.TheConstants.{MEMBERS}
use Rattle.voice_script.specs.Script.{is_number, natural, fits_byte}
use Rattle.voice_script.specs.Readings.{fit_members, to_come}
use Rattle.voice_script.proofs.words.Words.members.Given as goal

-- the words so far are numbers; what is kept, with those to come, is what all give
abbrev pub invariant-loop-word : goal.invariant-loop-word
invariant-loop-word l = record {
  can : (goal.iterator-loop-word).can_next l.word-iterator;
  ends : (goal.iterator-loop-word).is_finite l.word-iterator;
  few : length l.members.items ≤ MEMBERS;
  numbers : list_all is_number (to_come l.fn.self) ≡ list_all is_number (to_come l.word-iterator);
  fits : fit_members (to_come l.fn.self) ≡ (l.fit && (nat_le (length l.members.items + length (to_come l.word-iterator)) MEMBERS && list_all fits_byte (to_come l.word-iterator)));
  values : l.fit ≡ true → map natural (to_come l.fn.self) ≡ l.members.items ++ map natural (to_come l.word-iterator);
}
