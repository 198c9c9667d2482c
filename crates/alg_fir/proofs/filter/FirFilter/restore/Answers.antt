use Rattle.std.proofs.Common.{◌≡◌, ◌+◌, ◌-◌, ◌∙◌, length, take, drop, ap, arith}
use Rattle.ialg.specs.History.{word_at}
use Rattle.fir_kernel.proofs.Parts.{part_at, part_length}
use Rattle.alg_fir.specs.Keeps.{KeepsPast}
use Rattle.alg_fir.proofs.Laws.{memory_some}
use Rattle.alg_fir.proofs.filter.FirFilter.restore.Goals as goal

pub returns-then-n-kept : goal.returns-then-n-kept
returns-then-n-kept c p h m granted long rests =
    let kept = c.args.kept.now in
    let n = c.count_of-n.result in
    let some = rests.coefficients.some in
    let few = rests.coefficients.few in
    let long_kept = rests.coefficients.size in
    let e = c.count_of-n.ensures.exact (length p) some long_kept in
    let behind = take (length kept - n) (drop n kept) in
    let size : length behind ≡ length kept - n = part_length kept n (length kept) (omega arith) (omega arith) in
    let before : KeepsPast (length p) 0 h behind =
    λ j k b.
    let z : 0 + j ≡ j = omega arith in
    ap (word_at behind) z ∙ part_at kept n (length kept) j (omega arith) ∙ ap (λ i. word_at kept (i + j)) e ∙ rests.past j k b in
    record {
      history = rests.history;
      coefficients = rests.coefficients;
      ring = c.refill.ensures (length p) h (omega arith) few (long ∙ ap (λ a. a.running) (memory_some p m granted).memory) before;
    }
