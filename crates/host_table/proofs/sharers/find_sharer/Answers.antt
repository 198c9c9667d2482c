use Rattle.std.proofs.Common.{sym, ◌∙◌}
use Rattle.host_table.specs.Table.{slot_at}
use Rattle.host_table.specs.Sharers.{asked_by}
use Rattle.host_table.proofs.Likes.{none_of_other}
use Rattle.host_table.proofs.sharers.find_sharer.Goals as goal

pub returns-then-not-is_once : goal.returns-then-not-is_once
returns-then-not-is_once g c =
    sym
    (none_of_other g.M.Ialg.law.meaning.same (λ i. asked_by (slot_at c.args.instances.now.items i)) c.args.kind c.args.params.now.items c.args.table.now c.args.k
    (sym c.is_once.ensures ∙ c.if-not-is_once.true))
