use Rattle.std.proofs.Common.{lit<, arith}
use Rattle.mem_rec.specs.declared.Space.TheVariants.{Daram}
use Rattle.ialg.specs.Loans.{lent_words}
use Rattle.ialg.specs.Filters.{filter_records}
use Rattle.ialg.proofs.Taking.{visit, persist_not_once}
use Rattle.ialg.proofs.Hosting.{kept_named, running_named, without_scratch, rests_now}
use Rattle.ialg.proofs.hosted.AnyIalg.alg_deactivate.Goals as goal

pub returns-clause-law : goal.returns-clause-law
returns-clause-law g c p w l lawful closed lent active =
    let h = l.history in
    let F = g.K.Filter in
    let m = c.args.mem.now in
    let asked = F.filter.memory p in
    let placed = active.placed in
    let records = filter_records placed.memory in
    let found = c.in-Some.ensures.named F.KIND records (kept_named F.KIND asked m placed lent) persist_not_once in
    let v = visit 1 m _ _ c.in-Some.taken _ found (lit< tt) (λ e. omega arith) c.in-Some.ensures.left c.put.ensures.others c.put.ensures.back in
    let named = v.named 2 Daram F.KIND records (λ e. omega arith) (running_named F.KIND asked m placed lent) in
    let same = v.others 2 (λ e. omega arith) in
    let saved = c.save_from.ensures p h placed.memory named (rw (v.taken, same) active.keeps) in
    without_scratch F.KIND asked m.table.now (F.rests p h) (lent_words c.put.new.self)
    (rests_now F.KIND asked m.table.now _ (lent_words m) (lent_words c.put.new.self) placed (F.rests p h) v.written saved)

pub returns-in_default-clause-law : goal.returns-in_default-clause-law
returns-in_default-clause-law g c p w l lawful closed lent active =
    let h = l.history in
    let F = g.K.Filter in
    let placed = active.placed in
    let named = kept_named F.KIND (F.filter.memory p) c.args.mem.now placed lent in
    absurd (c.in_default.ensures.named F.KIND (filter_records placed.memory) named persist_not_once)
