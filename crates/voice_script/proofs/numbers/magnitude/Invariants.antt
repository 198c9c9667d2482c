use Rattle.std.proofs.Common.{◌≡◌, take, min, true}
use Rattle.std.specs.List.{list_all}
use Rattle.std.specs.Char.{is_ascii_digit}
use Rattle.voice_script.specs.Script.{digits_value}
use Rattle.voice_script.specs.declared.limits.TheConstants.{GREATEST_MAGNITUDE}
use Rattle.voice_script.proofs.numbers.magnitude.Given as goal

abbrev pub invariant-loop-digit : goal.invariant-loop-digit
invariant-loop-digit l = record {
  value : l.value ≡ min (digits_value (take l.digit-index l.digits)) GREATEST_MAGNITUDE;
  digits : list_all is_ascii_digit (take l.digit-index l.digits) ≡ true;
}
