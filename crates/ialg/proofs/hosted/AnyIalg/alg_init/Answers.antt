use Rattle.std.proofs.Common.{[], length, ap, lit<, arith, ◌∙◌}
use Rattle.ialg.specs.Records.{unplaced}
use Rattle.ialg.specs.Loans.{lent_words}
use Rattle.ialg.specs.Filters.{filter_records, IsPlaced}
use Rattle.ialg.proofs.Tables.{idle_lent_size}
use Rattle.ialg.proofs.Loans.{SameLoans-then, taken_and_put}
use Rattle.ialg.proofs.Taking.{visit, persist_not_once}
use Rattle.ialg.proofs.Hosting.{table_some, is_table-unplaced, none_once, kept_at, without_scratch, rests_now}
use Rattle.ialg.proofs.hosted.AnyIalg.alg_init.Goals as goal

pub returns-clause-law : goal.returns-clause-law
returns-clause-law g c w lawful taken table lent writable poison =
    let F = g.K.Filter in
    let p = c.args.p.now.items in
    let tab = c.args.tab.now in
    let m = c.write_object_of.new.mem in
    let asked = F.filter.memory p in
    let s = table_some asked (unplaced tab) taken in
    let records = filter_records s.memory in
    let sizes = idle_lent_size tab records s.records (lent_words c.args.mem.now) lent in
    let same = ap (λ b. b.now) c.write_object_of.ensures.others.table ∙ table in
    let names = rw s.records at (c.write_object_of.ensures.names (sizes 0)) in
    let size = ap (λ r. length r.now) (c.write_object_of.ensures.others.others1 (λ e. omega arith)) ∙ sizes 1 in
    let valid = rw s.records at (is_table-unplaced tab c.write_object_of.ensures.valid) in
    let named = kept_at s.memory valid m F.KIND (rw same names) size in
    let found = c.in-Some.ensures.named F.KIND records named persist_not_once in
    let v = visit 1 m _ _ c.in-Some.taken _ found (lit< tt) (λ e. omega arith) c.in-Some.ensures.left c.put.ensures.others c.put.ensures.back in
    let fresh = (rw c.as_slice.ensures.value at c.start.ensures) s.memory s.granted (ap (λ r. length r.now) v.taken ∙ size) in
    let placed : IsPlaced F.KIND asked tab (lent_words m) = record { memory = s.memory; granted = s.granted; valid = valid; object = names; none_once = none_once s.memory tab s.records } in
    without_scratch F.KIND asked tab (F.rests p []) (lent_words c.put.new.self)
    (rests_now F.KIND asked tab _ (lent_words m) (lent_words c.put.new.self) placed (F.rests p []) v.written fresh)

pub returns-in_default-clause-law : goal.returns-in_default-clause-law
returns-in_default-clause-law g c w lawful taken table lent writable poison =
    let F = g.K.Filter in
    let p = c.args.p.now.items in
    let tab = c.args.tab.now in
    let s = table_some (F.filter.memory p) (unplaced tab) taken in
    let records = filter_records s.memory in
    let sizes = idle_lent_size tab records s.records (lent_words c.args.mem.now) lent in
    let same = ap (λ b. b.now) c.write_object_of.ensures.others.table ∙ table in
    let names = rw s.records at (c.write_object_of.ensures.names (sizes 0)) in
    let size = ap (λ r. length r.now) (c.write_object_of.ensures.others.others1 (λ e. omega arith)) ∙ sizes 1 in
    let valid = rw s.records at (is_table-unplaced tab c.write_object_of.ensures.valid) in
    let named = kept_at s.memory valid c.write_object_of.new.mem F.KIND (rw same names) size in
    absurd (c.in_default.ensures.named F.KIND records named persist_not_once)

pub returns-clause-loans : goal.returns-clause-loans
returns-clause-loans g c =
    let left = c.in-Some.ensures.left in
    let back = c.put.ensures.back in
    let later = taken_and_put _ _ _ _ left.0 left.2 c.put.ensures.others c.in-Some.ensures.found.may
    (ap (λ r. r.ghost_name) back ∙ ap (λ r. r.ghost_name) left.1)
    (ap (λ r. length r.now) back ∙ c.start.auto.kept ∙ ap (λ r. length r.now) left.1) in
    SameLoans-then _ _ _ c.write_object_of.ensures.loans later
