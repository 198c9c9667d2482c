use Rattle.std.proofs.Common.{lit<, arith, refl, ap}
use Rattle.mem_rec.specs.declared.Space.TheVariants.{Saram}
use Rattle.ialg.specs.History.{with_samples}
use Rattle.ialg.specs.Records.{lasting}
use Rattle.ialg.specs.Loans.{lent_words}
use Rattle.ialg.specs.Filters.{filter_records}
use Rattle.ialg.proofs.Tables.{attr_of}
use Rattle.ialg.proofs.Taking.{visit, scratch_not_once, lasting-Rewritten}
use Rattle.ialg.proofs.Hosting.{kept_named, running_named, running_now}
use Rattle.ialg.proofs.hosted.AnyIalg.process.Goals as goal

pub returns-clause-law : goal.returns-clause-law
returns-clause-law g c p w l lawful closed lent active =
    let h = l.history in
    let F = g.K.Filter in
    let m = c.args.mem.now in
    let xs = c.args.input.now in
    let asked = F.filter.memory p in
    let placed = active.placed in
    let records = filter_records placed.memory in
    let found = c.in-Some.ensures.named F.KIND records (running_named F.KIND asked m placed lent) scratch_not_once in
    let v = visit 2 m _ _ c.in-Some.taken _ found (lit< tt) (λ e. omega arith) c.in-Some.ensures.left c.put.ensures.others c.put.ensures.back in
    let named = v.named 1 Saram F.KIND records (λ e. omega arith) (kept_named F.KIND asked m placed lent) in
    let same = v.others 1 (λ e. omega arith) in
    let runs : F.runs p h c.take_named.new.self.r1.now c.in-Some.taken.words.now = rw (same, v.taken) active.keeps in
    let after = c.run_with.ensures.history p h placed.memory named runs in (
      running_now F.KIND asked m.table.now _ (lent_words m) (lent_words c.put.new.self) placed (F.runs p (with_samples h xs)) v.written (rw same at after),
      c.run_with.ensures.outputs p h placed.memory named runs,
    )

pub returns-in_default-clause-law : goal.returns-in_default-clause-law
returns-in_default-clause-law g c p w l lawful closed lent active =
    let h = l.history in
    let F = g.K.Filter in
    let placed = active.placed in
    let named = running_named F.KIND (F.filter.memory p) c.args.mem.now placed lent in
    absurd (c.in_default.ensures.named F.KIND (filter_records placed.memory) named scratch_not_once)

pub returns-clause-leaves : goal.returns-clause-leaves
returns-clause-leaves g c p h lent active =
    let F = g.K.Filter in
    let m = c.args.mem.now in
    let asked = F.filter.memory p in
    let placed = active.placed in
    let records = filter_records placed.memory in
    let found = c.in-Some.ensures.named F.KIND records (running_named F.KIND asked m placed lent) scratch_not_once in
    let v = visit 2 m _ _ c.in-Some.taken _ found (lit< tt) (λ e. omega arith) c.in-Some.ensures.left c.put.ensures.others c.put.ensures.back in
    lasting-Rewritten 2 _ m.table.now (lent_words m) (lent_words c.put.new.self) v.written refl
    (attr_of m.table.now records placed.object.on_table 2)

pub returns-in_default-clause-leaves : goal.returns-in_default-clause-leaves
returns-in_default-clause-leaves g c p h lent active = ap (λ m. lasting c.args.mem.now.table.now (lent_words m)) c.in_default.ensures.left
