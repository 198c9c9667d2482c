use Rattle.std.proofs.Common.{◌∙◌, refl, sym, true}
use Rattle.std.proofs.lemmas.Bool.{eqb-true, false≢true}
use Rattle.octet_ports.proofs.PassLemmas.{each_loses_none, each_still_passes, each_still_takes, loses_none, tells_truth}
use Rattle.octet_ports.proofs.journal.Journal.pass_on.Goals as goal
use Rattle.octet_ports.proofs.journal.Journal.pass_on.Goals.{then-is_ok, else-is_ok}

pub returns-clause-failed : goal.returns-clause-failed
returns-clause-failed g c = c.if-self.false

pub returns-clause-replies : goal.returns-clause-replies
returns-clause-replies g c =
    tells_truth c.pass_first.ensures.passes c.forget.ensures.stays (rw c.len-waiting.ensures at c.true_octets-count.ensures.within)
    (rw c.as_slice.ensures.value at c.true_octets-count.ensures.sure) c.forget_outputs.ensures.stays

pub returns-clause-kept : goal.returns-clause-kept
returns-clause-kept g c = λ _.
    let outputs = c.pass_outputs-all.ensures in
    let still = c.forget_outputs.ensures in (
      each_loses_none g.W.Write.contents _ _ _ outputs.passes (outputs.all c.if-not-all.false) still.stays still.nothing,
      elim c.if-is_ok.branch [
        | then-is_ok w ↦
            let same = eqb-true c.true_octets-count.result c.len-waiting.result (sym w.told-is ∙ c.if-not-told.false) in
            let all = c.pass_first.ensures.all (sym w.if-is_ok.ensures.value) ∙ same ∙ c.len-waiting.ensures in
            loses_none g.R.Write.contents _ _ _ _ c.pass_first.ensures.passes all c.forget.ensures.stays c.forget.ensures.nothing
        | else-is_ok w ↦ absurd (false≢true (sym w.if-is_ok.false ∙ sym w.told-is ∙ c.if-not-told.false))
      ],
    )

pub returns-then-self-clause-replies : goal.returns-then-self-clause-replies
returns-then-self-clause-replies g c =
    tells_truth c.pass_first.ensures.passes c.forget.ensures.stays (rw c.len-waiting.ensures at c.true_octets-count.ensures.within)
    (rw c.as_slice.ensures.value at c.true_octets-count.ensures.sure) c.forget_outputs.ensures.stays

pub returns-clause-outputs : goal.returns-clause-outputs
returns-clause-outputs g c = each_still_passes g.W.Write.contents _ _ _ c.pass_outputs-all.ensures.passes c.forget_outputs.ensures.stays

pub returns-clause-all : goal.returns-clause-all
returns-clause-all g c = λ _.
    let still = c.forget_outputs.ensures in (
      each_still_takes _ _ _ (c.pass_outputs-all.ensures.all c.if-not-all.false) still.stays,
      elim c.if-is_ok.branch [
        | then-is_ok w ↦
            let same = eqb-true c.true_octets-count.result c.len-waiting.result (sym w.told-is ∙ c.if-not-told.false) in
            c.forget.ensures.stays.taken ∙ c.pass_first.ensures.all (sym w.if-is_ok.ensures.value) ∙ same ∙ c.len-waiting.ensures
        | else-is_ok w ↦ absurd (false≢true (sym w.if-is_ok.false ∙ sym w.told-is ∙ c.if-not-told.false))
      ],
    )

pub returns-clause-nothing : goal.returns-clause-nothing
returns-clause-nothing g c = (c.forget_outputs.ensures.nothing, c.forget.ensures.nothing, c.clear.ensures.none)

pub returns-clause-lasts : goal.returns-clause-lasts
returns-clause-lasts g c = λ failed. failed

pub returns-clause-passing : goal.returns-clause-passing
returns-clause-passing g c = refl

pub returns-then-self-clause-outputs : goal.returns-then-self-clause-outputs
returns-then-self-clause-outputs g c = each_still_passes g.W.Write.contents _ _ _ c.pass_outputs-all.ensures.passes c.forget_outputs.ensures.stays

pub returns-then-self-clause-nothing : goal.returns-then-self-clause-nothing
returns-then-self-clause-nothing g c = (c.forget_outputs.ensures.nothing, c.forget.ensures.nothing, c.clear.ensures.none)

pub returns-then-self-clause-failed : goal.returns-then-self-clause-failed
returns-then-self-clause-failed g c = refl {a = true}

pub returns-then-self-clause-lasts : goal.returns-then-self-clause-lasts
returns-then-self-clause-lasts g c = λ _. refl {a = true}

pub returns-then-self-clause-passing : goal.returns-then-self-clause-passing
returns-then-self-clause-passing g c = refl

pub pass_first-requires : goal.pass_first-requires
pass_first-requires g c = rw c.len-waiting.ensures at c.true_octets-count.ensures.within
