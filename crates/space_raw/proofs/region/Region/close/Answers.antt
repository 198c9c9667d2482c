use Rattle.std.proofs.Common.{length, subst, sym}
use Rattle.space_raw.specs.Slots.{IsRun}
use Rattle.space_raw.proofs.Stores.{all_run}
use Rattle.space_raw.proofs.region.Region.close.Goals as goal

pub close_rest-requires-clause-there : goal.close_rest-requires-clause-there
close_rest-requires-clause-there g c = subst (λ cs. IsRun cs 0 (length cs)) (sym c.of.ensures.words) (all_run c.args.all.words)
