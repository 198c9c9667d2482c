use Rattle.std.proofs.Common.{◌≡◌, ◌+◌, ◌-◌, take, drop, w16, ◌∙◌}
use Rattle.std.proofs.lemmas.Int.{to_z-of_z}
use Rattle.fir_kernel.proofs.Lanes.{all_widened, take_fits, drop_fits}
use Rattle.fir_kernel.proofs.HalfEights.{AreOnto, ontos, onto_line, samples_of, one_tap_each}
use Rattle.fir_kernel.proofs.half_eights.add_products.Goals as goal

onto : (c : goal.After-from) → AreOnto c.args.halves c.args.coefficient (samples_of c.args.line.now c.args.at) (ontos c.args.halves c.from.result (samples_of c.args.line.now c.args.at))
onto c =
    let same : c.from.result ≡ c.args.coefficient = c.from.ensures ∙ to_z-of_z w16 c.args.coefficient c.ranges.coefficient in
    onto_line c.args.halves c.args.coefficient c.from.result c.args.line.now c.args.at same c.requires.eight c.ranges.coefficient c.requires.samples c.requires.products c.requires.within c.requires.reach

pub overflow_cast-samples : goal.overflow_cast-samples
overflow_cast-samples c =
    let at = c.args.at in
    all_widened _ (take_fits 8 (take (at + 8 - at) (drop at c.args.line.now)) (take_fits (at + 8 - at) (drop at c.args.line.now) (drop_fits at c.args.line.now c.requires.samples)))

pub limited-requires-clause-eight : goal.limited-requires-clause-eight
limited-requires-clause-eight c = (onto c).size

pub limited-requires-clause-fit : goal.limited-requires-clause-fit
limited-requires-clause-fit c = (onto c).fit

pub returns : goal.returns
returns c sums is =
    let line = c.args.line.now in
    let at = c.args.at in
    let wide = ontos c.args.halves c.from.result (samples_of line at) in
    let same : c.from.result ≡ c.args.coefficient = c.from.ensures ∙ to_z-of_z w16 c.args.coefficient c.ranges.coefficient in
    let are = onto_line c.args.halves c.args.coefficient c.from.result line at same c.requires.eight c.ranges.coefficient c.requires.samples c.requires.products c.requires.within c.requires.reach in
    one_tap_each c.args.halves wide c.limited.result c.args.coefficient line at sums are c.limited.ensures.eight c.limited.ensures.values
    c.ranges.coefficient c.requires.samples c.requires.products c.requires.reach is
