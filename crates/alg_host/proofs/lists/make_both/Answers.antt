use Rattle.std.proofs.Common.{rules}
use Rattle.alg_host.proofs.lists.make_both.Goals as goal

pub returns-clause-other_served : goal.returns-clause-other_served
returns-clause-other_served g c = search rules

pub returns-clause-agree : goal.returns-clause-agree
returns-clause-agree g c = λ one_before other_before one_keeps other_keeps i j x y first second same.
    let did = c.make_all.ensures.served one_before one_keeps in
    let other_did = returns-clause-other_served g c other_before other_keeps in
    c.lives_agree.ensures g.M.Ialg.law.meaning i j x y _ _
    (record { before = one_before; after = did.0; born = first.lives; lawful = first.lawful; spared = first.spared; leads = did.1 })
    (record { before = other_before; after = other_did.0; born = second.lives; lawful = second.lawful; spared = second.spared; leads = other_did.1 })
    same.kind same.params same.before same.after
