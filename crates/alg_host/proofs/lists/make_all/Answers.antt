use Rattle.std.proofs.Common.{◌<◌, ◌≤◌, length, refl, sym, ◌∙◌, subst, arith}
use Rattle.std.proofs.lemmas.List.{take_all}
use Rattle.alg_host.specs.Requests.{all_made, HostCallsRefine}
use Rattle.alg_host.proofs.ListLemmas.{as_many, asked_still, made_next, served_more, served_none}
use Rattle.alg_host.proofs.lists.make_all.Goals as goal

pub loop-k-init : goal.loop-k-init
loop-k-init g c = record {
  same = refl;
  count = refl;
  served = served_none g.M.Ialg.law c.args.host.now;
}

pub loop-k-preserved : goal.loop-k-preserved
loop-k-preserved g c =
    let requests = c.loop-k.requests in
    let k = c.loop-k.k in
    let made_now = c.make.new.request in
    let lt : k < length requests = omega (arith, c.loop-k.invariant.count) in
    let same = asked_still requests k made_now _ lt c.make.ensures.same ∙ c.loop-k.invariant.same in
    record {
      same = same;
      count = as_many c.args.requests.now _ same;
      served = subst (λ cs. HostCallsRefine g.M.Ialg.law cs c.args.host.now c.make.new.host) (sym (made_next requests k made_now lt))
          (served_more g.M.Ialg.law _ _ _ _ _ c.loop-k.invariant.served c.make.ensures.served);
    }

pub returns-clause-same : goal.returns-clause-same
returns-clause-same g c = c.loop-k.invariant.same

pub returns-clause-served : goal.returns-clause-served
returns-clause-served g c =
    let few : length c.loop-k.requests ≤ c.loop-k.k = omega (arith, c.loop-k.invariant.count) in
    subst (λ rs. HostCallsRefine g.M.Ialg.law (all_made rs) c.args.host.now c.loop-k.host) (take_all c.loop-k.k c.loop-k.requests few)
    c.loop-k.invariant.served

pub returns-clause-grows : goal.returns-clause-grows
returns-clause-grows g c before keeps i x born lawful spared =
    let few : length c.loop-k.requests ≤ c.loop-k.k = omega (arith, c.loop-k.invariant.count) in
    let served = subst (λ rs. HostCallsRefine g.M.Ialg.law (all_made rs) c.args.host.now c.loop-k.host) (take_all c.loop-k.k c.loop-k.requests few)
    c.loop-k.invariant.served in
    let did = served before keeps in
    c.lives_go_by_their_histories.ensures.grows g.M.Ialg.law.meaning i x (all_made c.loop-k.requests)
    (record { before = before; after = did.0; born = born; lawful = lawful; spared = spared; leads = did.1 })
