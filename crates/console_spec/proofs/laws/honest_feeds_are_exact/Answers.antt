use Rattle.voice_script.proofs.ComputedLemmas.{exactly_short, exactly_whole}
use Rattle.console_spec.specs.Console.{console_machine}
use Rattle.console_spec.proofs.laws.honest_feeds_are_exact.Goals as goal

pub returns-clause-short : goal.returns-clause-short
returns-clause-short g c = λ kinds named widths. exactly_short (console_machine kinds named widths)

pub returns-clause-whole : goal.returns-clause-whole
returns-clause-whole g c = λ kinds named widths. exactly_whole (console_machine kinds named widths)
