use Rattle.std.proofs.Common.{◌<◌, length}
use Rattle.octet_ports.specs.Passing.{HasNothing, HoldsStill}
use Rattle.octet_ports.proofs.EachLemmas.{none_yet, one_more, each_did, all_have}
use Rattle.octet_ports.proofs.waiting.forget_outputs.Goals as goal

pub loop-output-init : goal.loop-output-init
loop-output-init g c = record { nothing = none_yet _; stays = none_yet _ }

pub loop-output-preserved : goal.loop-output-preserved
loop-output-preserved g c =
    let inside : c.loop-output.output-index < length c.loop-output.output-items = rw c.loop-output.auto.output-items c.loop-output-test.true in
    record {
      nothing = one_more (λ _ new. HasNothing new) _ _ _ c.output-item.result c.forget.new.self c.loop-output.invariant.nothing inside c.forget.ensures.nothing;
      stays = one_more HoldsStill _ _ _ _ c.forget.new.self c.loop-output.invariant.stays inside c.forget.ensures.stays;
    }

pub returns-clause-nothing : goal.returns-clause-nothing
returns-clause-nothing g c =
    let read = c.deref_mut-output-items.ensures in
    all_have HasNothing c.args.outputs.now.items _ (each_did (λ _ new. HasNothing new) _ _ _ _ _ c.loop-output.invariant.nothing read.value read.len c.loop-output-test.false)

pub returns-clause-stays : goal.returns-clause-stays
returns-clause-stays g c =
    let read = c.deref_mut-output-items.ensures in
    each_did HoldsStill _ _ _ _ _ c.loop-output.invariant.stays read.value read.len c.loop-output-test.false
