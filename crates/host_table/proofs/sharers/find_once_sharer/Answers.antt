use Rattle.std.proofs.Common.{sym, ◌∙◌, arith}
use Rattle.mem_rec.specs.declared.TheConstants.{INSTANCES}
use Rattle.host_table.specs.Table.{slot_at}
use Rattle.host_map.specs.Sharers.{asked, is_sharer}
use Rattle.host_table.specs.Sharers.{asked_by}
use Rattle.host_table.proofs.Finds.{find_step, find_hit, find_end}
use Rattle.host_table.proofs.sharers.find_once_sharer.Goals as goal

pub loop-j-preserved : goal.loop-j-preserved
loop-j-preserved g c =
    c.loop-j.invariant
    ∙ find_step (λ i. is_sharer g.M.Ialg.law.meaning.same (asked c.args.kind c.args.params.now.items c.args.table.now) c.args.k (asked_by (slot_at c.args.instances.now.items i))) c.loop-j.j INSTANCES (omega arith)
    (sym c.shares.ensures ∙ c.if-shares.false)

pub returns-then-shares : goal.returns-then-shares
returns-then-shares g c =
    sym
    (c.loop-j.invariant
    ∙ find_hit (λ i. is_sharer g.M.Ialg.law.meaning.same (asked c.args.kind c.args.params.now.items c.args.table.now) c.args.k (asked_by (slot_at c.args.instances.now.items i))) c.loop-j.j INSTANCES (omega arith)
    (sym c.shares.ensures ∙ c.if-shares.true))

pub returns : goal.returns
returns g c =
    sym
    (c.loop-j.invariant
    ∙ find_end (λ i. is_sharer g.M.Ialg.law.meaning.same (asked c.args.kind c.args.params.now.items c.args.table.now) c.args.k (asked_by (slot_at c.args.instances.now.items i))) c.loop-j.j INSTANCES (omega arith))
