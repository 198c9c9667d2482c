use Rattle.host_spaces.proofs.Searches.{there_at, there_within}
use Rattle.host_spaces.proofs.blocks.position.Goals as goal

pub returns-clause-within : goal.returns-clause-within
returns-clause-within c =
    there_within c.args.blocks.now c.count_before.result c.args.place c.count_before.ensures.before c.count_before.ensures.behind c.requires.there

pub returns-clause-found : goal.returns-clause-found
returns-clause-found c =
    there_at c.args.blocks.now c.count_before.result c.args.place c.count_before.ensures.before c.count_before.ensures.behind c.requires.there c.requires.order
