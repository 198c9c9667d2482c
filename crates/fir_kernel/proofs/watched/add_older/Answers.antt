use Rattle.std.proofs.Common.{◌≡◌, ◌+◌, ◌≤◌, ◌∙◌, ℕ, ℤ, List, length, map, of_z, FitsSigned, sym, subst, arith, w16}
use Rattle.std.specs.Int.{saturate_to_bits}
use Rattle.std.proofs.lemmas.Int.{to_z-of_z}
use Rattle.ialg.specs.History.{word_at}
use Rattle.fir_kernel.specs.Halves.{AreHalves, HasHalves}
use Rattle.fir_kernel.proofs.HalfLanes.{AreOnto, ontos}
use Rattle.fir_kernel.proofs.Groups.{AllFit, others, others_onto, other_tap, ontos_bits, words_of, words_length, picked, even_picked}
use Rattle.fir_kernel.proofs.watched.add_older.Goals as goal

onto_bits : (hs : List ℤ) (c f : ℤ) (line : List ℤ) (at : ℕ) → f ≡ c → length hs ≡ 4 → FitsSigned w16 c → AllFit line → HasHalves c line → AreHalves hs → at + 8 ≤ length line
    → AreOnto hs c (others line at 0) (ontos_bits hs f (picked (map (of_z w16) (words_of line at)) 0))
onto_bits hs c f line at same lh fc fl factors small reach =
    subst (λ p. AreOnto hs c (others line at 0) (ontos_bits hs f p)) (sym (even_picked (words_of line at) (words_length line at reach)))
    (others_onto hs c f line at 0 (omega arith) lh same fc fl factors small)

pub limited-requires-clause-four : goal.limited-requires-clause-four
limited-requires-clause-four c =
    (onto_bits c.args.halves c.args.coefficient c.from.result c.args.line.now c.args.at (c.from.ensures ∙ to_z-of_z w16 c.args.coefficient c.ranges.coefficient)
    c.requires.four c.ranges.coefficient c.requires.samples c.requires.products c.requires.within c.requires.reach).size

pub limited-requires-clause-fit : goal.limited-requires-clause-fit
limited-requires-clause-fit c =
    (onto_bits c.args.halves c.args.coefficient c.from.result c.args.line.now c.args.at (c.from.ensures ∙ to_z-of_z w16 c.args.coefficient c.ranges.coefficient)
    c.requires.four c.ranges.coefficient c.requires.samples c.requires.products c.requires.within c.requires.reach).fit

pub returns : goal.returns
returns c sums is =
    let line = c.args.line.now in
    let at = c.args.at in
    let e = even_picked (words_of line at) (words_length line at c.requires.reach) in
    let f : c.from.result ≡ c.args.coefficient = c.from.ensures ∙ to_z-of_z w16 c.args.coefficient c.ranges.coefficient in
    let limited : (k : ℕ) → word_at c.limited.result k ≡ saturate_to_bits 30 (word_at (ontos c.args.halves c.from.result (others line at 0)) k) =
    subst (λ p. (k : ℕ) → word_at c.limited.result k ≡ saturate_to_bits 30 (word_at (ontos_bits c.args.halves c.from.result p) k)) e c.limited.ensures.values in
    other_tap c.args.halves c.limited.result c.args.coefficient c.from.result line at 0 (at) sums (omega arith) (omega arith) c.limited.ensures.four limited f
    c.ranges.coefficient c.requires.samples c.requires.products c.requires.within is
