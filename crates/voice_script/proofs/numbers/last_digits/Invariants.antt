use Rattle.std.proofs.Common.{◌≡◌, ◌<◌, ◌^◌, take, true}
use Rattle.std.specs.List.{list_all}
use Rattle.std.specs.Char.{is_ascii_digit}
use Rattle.voice_script.specs.Script.{digits_value}
use Rattle.voice_script.proofs.numbers.last_digits.Given as goal

abbrev pub invariant-loop-count : goal.invariant-loop-count
invariant-loop-count l = record {
  value : l.value ≡ digits_value (take l.count l.line);
  below : l.value < 10 ^ l.count;
  digits : list_all is_ascii_digit (take l.count l.line) ≡ true;
}
