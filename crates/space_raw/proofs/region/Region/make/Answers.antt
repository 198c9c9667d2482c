use Rattle.std.proofs.Common.{arith, length, replicate, pos, ap, subst, sym, ◌∙◌}
use Rattle.space_raw.specs.Slots.{IsRun, run_of}
use Rattle.space_raw.proofs.Stores.{all_run, all_words}
use Rattle.space_raw.proofs.region.Region.make.Goals as goal

pub whole-requires : goal.whole-requires
whole-requires g c = record { there = subst (λ cs. IsRun cs 0 (length cs)) (sym c.in_ok-region.ensures.zeros) (all_run (replicate c.args.words (pos 0))) }

pub returns-clause-whole : goal.returns-clause-whole
returns-clause-whole g c = grind arith

pub returns-clause-zeros : goal.returns-clause-zeros
returns-clause-zeros g c = c.whole.ensures.words ∙ ap (λ cs. run_of cs 0 (length cs)) c.in_ok-region.ensures.zeros ∙ all_words (replicate c.args.words (pos 0))
