use Rattle.std.proofs.Common.{◌≡◌, ◌≤◌, ◌+◌, ◌*◌, ◌++◌, take, length}
use Rattle.std.specs.List.{flat_map}
use Rattle.voice_script.specs.Readings.{word_text}
use Rattle.voice_script.specs.declared.limits.TheConstants.{WORD_TEXT_OCTETS}
use Rattle.voice_script.proofs.replies.push_words.Given as goal

abbrev pub invariant-loop-word : goal.invariant-loop-word
invariant-loop-word l = record {
  text : l.text.items ≡ l.fn.text.items ++ flat_map word_text (take l.word-index l.words);
  room : length l.text.items ≤ length l.fn.text.items + l.word-index * WORD_TEXT_OCTETS;
}
