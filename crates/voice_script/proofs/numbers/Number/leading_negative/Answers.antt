use Rattle.std.proofs.Common.{◌∙◌, refl}
use Rattle.voice_script.proofs.WordLemmas.{words_of-minus, is_number-minus, limits-minus}
use Rattle.voice_script.proofs.numbers.Number.leading_negative.Goals as goal

pub returns-then-digits-gt-SHORT_DIGITS-clause-word : goal.returns-then-digits-gt-SHORT_DIGITS-clause-word
returns-then-digits-gt-SHORT_DIGITS-clause-word c =
    words_of-minus c.args.line.now c.in_ok-end.end c.in_ok-end.magnitude c.requires.some c.requires.minus c.in_ok-end.ensures.digits
    ∙ rw (c.part_before.ensures.word, c.part_before.ensures.after) refl

pub returns-clause-word : goal.returns-clause-word
returns-clause-word c =
    words_of-minus c.args.line.now c.in_ok-count.count c.in_ok-count.magnitude c.requires.some c.requires.minus c.in_ok-count.ensures.digits
    ∙ rw (c.part.ensures.word, c.part.ensures.after) refl

pub part_before-requires-clause-numeric : goal.part_before-requires-clause-numeric
part_before-requires-clause-numeric c = is_number-minus c.args.line.now c.in_ok-end.end c.in_ok-end.magnitude c.requires.some c.requires.minus c.in_ok-end.ensures.digits

pub part_before-requires-clause-limits : goal.part_before-requires-clause-limits
part_before-requires-clause-limits c = limits-minus c.args.line.now c.in_ok-end.end c.in_ok-end.magnitude c.requires.some c.requires.minus c.in_ok-end.ensures.digits

pub part-requires-clause-numeric : goal.part-requires-clause-numeric
part-requires-clause-numeric c = is_number-minus c.args.line.now c.in_ok-count.count c.in_ok-count.magnitude c.requires.some c.requires.minus c.in_ok-count.ensures.digits

pub part-requires-clause-limits : goal.part-requires-clause-limits
part-requires-clause-limits c = limits-minus c.args.line.now c.in_ok-count.count c.in_ok-count.magnitude c.requires.some c.requires.minus c.in_ok-count.ensures.digits
