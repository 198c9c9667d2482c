use Rattle.std.proofs.Common.{rules}
use Rattle.space_raw.proofs.region.Region.close_rest.Goals as goal

pub deallocate-requires-clause-block : goal.deallocate-requires-clause-block
deallocate-requires-clause-block g c = search rules

pub deallocate-requires-clause-blank : goal.deallocate-requires-clause-blank
deallocate-requires-clause-blank g c = search rules
