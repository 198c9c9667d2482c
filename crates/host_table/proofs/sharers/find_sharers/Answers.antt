use Rattle.host_table.specs.Table.{slot_at}
use Rattle.host_map.specs.Sharers.{asked, sharer_of}
use Rattle.host_table.specs.Sharers.{asked_by}
use Rattle.host_table.proofs.Likes.{no_sharer_past, four_sharers}
use Rattle.host_table.proofs.sharers.find_sharers.Goals as goal

pub returns : goal.returns
returns g c =
    four_sharers _ (λ k. sharer_of g.M.Ialg.law.meaning.same (λ j. asked_by (slot_at c.args.instances.now.items j)) (asked c.args.kind c.args.params.now.items c.args.table.now) k)
    c.find_sharer-t0.ensures c.find_sharer-t1.ensures c.find_sharer-t2.ensures c.find_sharer-t3.ensures
    (λ k past. no_sharer_past g.M.Ialg.law.meaning.same (λ j. asked_by (slot_at c.args.instances.now.items j)) c.args.kind c.args.params.now.items c.args.table.now k c.records-records.ensures.table past)
