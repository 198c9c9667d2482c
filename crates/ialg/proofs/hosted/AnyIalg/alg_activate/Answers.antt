use Rattle.std.proofs.Common.{length, ap, sym, subst, lit<, arith, ◌∙◌}
use Rattle.mem_rec.specs.declared.Space.TheVariants.{Saram}
use Rattle.ialg.specs.Loans.{lent_words}
use Rattle.ialg.specs.Filters.{filter_records}
use Rattle.ialg.proofs.Taking.{visit, scratch_not_once}
use Rattle.ialg.proofs.Hosting.{kept_named, running_named, running_size, with_scratch, running_now}
use Rattle.ialg.proofs.hosted.AnyIalg.alg_activate.Goals as goal

pub returns-clause-law : goal.returns-clause-law
returns-clause-law g c p w l lawful closed lent poison idle =
    let h = l.history in
    let F = g.K.Filter in
    let m = c.args.mem.now in
    let asked = F.filter.memory p in
    let keeps = with_scratch F.KIND asked m.table.now (F.rests p h) (lent_words m) idle in
    let placed = keeps.placed in
    let records = filter_records placed.memory in
    let found = c.in-Some.ensures.named F.KIND records (running_named F.KIND asked m placed lent) scratch_not_once in
    let v = visit 2 m _ _ c.in-Some.taken _ found (lit< tt) (λ e. omega arith) c.in-Some.ensures.left c.put.ensures.others c.put.ensures.back in
    let named = v.named 1 Saram F.KIND records (λ e. omega arith) (kept_named F.KIND asked m placed lent) in
    let size = ap (λ r. length r.now) v.taken ∙ running_size F.KIND asked m placed lent in
    let same = v.others 1 (λ e. omega arith) in
    let restored = c.restore_from.ensures p h placed.memory named placed.granted size (subst (F.rests p h) (sym same) keeps.keeps) in
    running_now F.KIND asked m.table.now _ (lent_words m) (lent_words c.put.new.self) placed (F.runs p h) v.written (rw same at restored)

pub returns-in_default-clause-law : goal.returns-in_default-clause-law
returns-in_default-clause-law g c p w l lawful closed lent poison idle =
    let h = l.history in
    let F = g.K.Filter in
    let m = c.args.mem.now in
    let asked = F.filter.memory p in
    let placed = (with_scratch F.KIND asked m.table.now (F.rests p h) (lent_words m) idle).placed in
    absurd (c.in_default.ensures.named F.KIND (filter_records placed.memory) (running_named F.KIND asked m placed lent) scratch_not_once)
