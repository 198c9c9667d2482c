use Rattle.std.proofs.Common.{List, IsTrue, sym, subst, rules}
use Rattle.mem_rec.specs.declared.MemRec.{MemRec}
use Rattle.mem_rec.specs.Records.{is_table}
use Rattle.host_spaces.proofs.Limits.{record_limits}
use Rattle.host_spaces.proofs.wants.wanted_record.Goals as goal

pub returns-clause-limits : goal.returns-clause-limits
returns-clause-limits c =
    record_limits c.records-records.result.now c.args.k _ _ _ c.next_multiple_of.result
    (subst (λ (rs : List MemRec). IsTrue (is_table rs)) (sym c.records-records.ensures.value) c.records-records.ensures.table) c.if-k-records.false c.next_multiple_of.ensures.value

pub returns-clause-value : goal.returns-clause-value
returns-clause-value c = search rules
