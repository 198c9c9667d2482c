use Rattle.std.proofs.Common.{◌≡◌, ◌<◌, ◌+◌, ◌-◌, pos, length, take, drop, inl, inr, arith, ap, ◌∙◌, get_or-take, length-take}
use Rattle.std.proofs.lemmas.Bool.{cases_lt}
use Rattle.ialg.specs.History.{word_at}
use Rattle.fir_kernel.proofs.Parts.{part_at, part_length}
use Rattle.fir_kernel.proofs.RingLemmas.{near_at, around_at}
use Rattle.fir_kernel.proofs.ring.unroll.Goals as goal

pub returns-then-count-next-clause-samples : goal.returns-then-count-next-clause-samples
returns-then-count-next-clause-samples c h ring j k e =
    let words = c.args.words.now in
    let count = c.args.count in
    let next = c.args.next in
    let m = next - count in
    let size : length (take (next - m) (drop m words)) ≡ next - m = part_length words m next (omega arith) (omega arith) in
    let f : m + j + k + 1 ≡ next = omega arith in
    c.place.ensures.copied j (omega arith) ∙ part_at words m next j (omega arith) ∙ near_at count c.args.size next words h ring (m + j) j k e f

pub returns-else-count-next-clause-samples : goal.returns-else-count-next-clause-samples
returns-else-count-next-clause-samples c h ring j k e =
    let words = c.args.words.now in
    let count = c.args.count in
    let next = c.args.next in
    let size = c.args.size in
    let far = count - next in
    let m = size - far in
    let new = c.place-else-count-next-2.new.words in
    let end_part : length (take (size - m) (drop m words)) ≡ size - m = part_length words m size (omega arith) (omega arith) in
    let front : length (take next words) ≡ next = simp length-take (omega arith) in
    elim (cases_lt j far) [
      | inl b ↦
          let f : m + j + k + 1 ≡ next + size = omega arith in
          c.place-else-count-next-2.ensures.before (c.args.at + j) (omega arith) ∙ c.place-else-count-next.ensures.copied j (omega arith)
          ∙ part_at words m size j (omega arith) ∙ around_at count size next words h ring (m + j) j k e (omega arith) f
      | inr b ↦
          let s : c.args.at + j ≡ c.args.at + far + (j - far) = omega arith in
          let less : j - far < next = omega arith in
          let f : j - far + k + 1 ≡ next = omega arith in
          ap (word_at new) s ∙ c.place-else-count-next-2.ensures.copied (j - far) (omega arith) ∙ get_or-take next words (j - far) (pos 0) less
          ∙ near_at count size next words h ring (j - far) j k e f
    ]
