use Rattle.std.proofs.Common.{◌≡◌, w16, ◌∙◌}
use Rattle.std.proofs.lemmas.Int.{to_z-of_z}
use Rattle.fir_kernel.proofs.HalfLanes.{AreOnto, ontos, onto_line, samples_of, one_tap_each}
use Rattle.fir_kernel.proofs.half_lanes.add_products.Goals as goal

onto : (c : goal.After-from) → AreOnto c.args.halves c.args.coefficient (samples_of c.args.line.now c.args.at) (ontos c.args.halves c.from.result (samples_of c.args.line.now c.args.at))
onto c =
    let same : c.from.result ≡ c.args.coefficient = c.from.ensures ∙ to_z-of_z w16 c.args.coefficient c.ranges.coefficient in
    onto_line c.args.halves c.args.coefficient c.from.result c.args.line.now c.args.at same c.requires.four c.ranges.coefficient c.requires.samples c.requires.products c.requires.within c.requires.reach

pub limited-requires-clause-four : goal.limited-requires-clause-four
limited-requires-clause-four c = (onto c).size

pub limited-requires-clause-fit : goal.limited-requires-clause-fit
limited-requires-clause-fit c = (onto c).fit

pub returns : goal.returns
returns c sums is =
    let line = c.args.line.now in
    let at = c.args.at in
    let wide = ontos c.args.halves c.from.result (samples_of line at) in
    let same : c.from.result ≡ c.args.coefficient = c.from.ensures ∙ to_z-of_z w16 c.args.coefficient c.ranges.coefficient in
    let are = onto_line c.args.halves c.args.coefficient c.from.result line at same c.requires.four c.ranges.coefficient c.requires.samples c.requires.products c.requires.within c.requires.reach in
    one_tap_each c.args.halves wide c.limited.result c.args.coefficient line at sums are c.limited.ensures.four c.limited.ensures.values
    c.ranges.coefficient c.requires.samples c.requires.products c.requires.reach is
