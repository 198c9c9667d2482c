use Rattle.std.proofs.Common.{◌≡◌, length, sym, ap, subst, ◌∙◌, arith}
use Rattle.ialg.specs.Records.{unplaced}
use Rattle.ialg.specs.Loans.{lent_words}
use Rattle.ialg.specs.Filters.{filter_records, IsPlaced}
use Rattle.ialg.proofs.Tables.{lasting_at}
use Rattle.ialg.proofs.Hosting.{none_once, without_scratch}
use Rattle.ialg.proofs.hosted.AnyIalg.alg_moved.Goals as goal

pub returns-clause-active : goal.returns-clause-active
returns-clause-active g c p w l before lawful moved table closed lent active =
    let h = l.history in
    let F = g.K.Filter in
    let m = c.write_object_of.new.mem in
    let old = c.args.mem.now in
    let tab = c.args.tab.now in
    let asked = F.filter.memory p in
    let before = active.placed in
    let records : unplaced tab ≡ filter_records before.memory = sym moved ∙ before.object.on_table in
    let names = rw records at (c.write_object_of.ensures.names before.object.long) in
    let first = ap (λ r. r.now) (c.write_object_of.ensures.others.others1 (λ e. omega arith)) in
    let second = ap (λ r. r.now) (c.write_object_of.ensures.others.others2 (λ e. omega arith)) in
    let placed : IsPlaced F.KIND asked tab (lent_words m) =
    record { memory = before.memory; granted = before.granted; valid = before.valid; object = names; none_once = none_once before.memory tab records } in
    record { placed = placed; keeps = rw (first, second) active.keeps }

pub returns-clause-idle : goal.returns-clause-idle
returns-clause-idle g c p w l before lawful moved table closed lent idle =
    let h = l.history in
    let F = g.K.Filter in
    let m = c.write_object_of.new.mem in
    let old = c.args.mem.now in
    let tab = c.args.tab.now in
    let asked = F.filter.memory p in
    let before = idle.placed in
    let records : unplaced tab ≡ filter_records before.memory = sym moved ∙ before.object.on_table in
    let at = lasting_at tab (filter_records before.memory) records (lent_words old) in
    let names = rw records at (c.write_object_of.ensures.names (ap length (sym (at 0)) ∙ before.object.long)) in
    let first = ap (λ r. r.now) (c.write_object_of.ensures.others.others1 (λ e. omega arith)) in
    let placed : IsPlaced F.KIND asked tab (lent_words m) =
    record { memory = before.memory; granted = before.granted; valid = before.valid; object = names; none_once = none_once before.memory tab records } in
    without_scratch F.KIND asked tab (F.rests p h) (lent_words m) (record { placed = placed; keeps = rw first (subst (F.rests p h) (at 1) idle.keeps) })

pub returns-clause-loans : goal.returns-clause-loans
returns-clause-loans g c = c.write_object_of.ensures.loans
