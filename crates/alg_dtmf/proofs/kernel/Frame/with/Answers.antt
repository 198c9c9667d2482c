use Rattle.std.proofs.Common.{◌≡◌, ◌∙◌, rules, refl}
use Rattle.std.proofs.lemmas.Int.{to_z-of_z}
use mir.Val.{SFits, to_z, of_z}
use mir.Syntax.{w16, w32}
use Rattle.alg_dtmf.proofs.kernel.Frame.with.Goals as goal

pub returns-clause-samples : goal.returns-clause-samples
returns-clause-samples c =
    let fn : SFits w16 c.args.self.samples = search rules in
    let en : to_z w16 (of_z w16 c.args.self.samples) ≡ c.args.self.samples = to_z-of_z w16 c.args.self.samples fn in
    to_z-of_z w16 c.add-samples.result (record { sfits = c.add-samples.type_inv }) ∙ c.add-samples.ensures ∙ rw en refl

pub returns-clause-energy : goal.returns-clause-energy
returns-clause-energy c =
    let fs : SFits w16 c.args.scale.energy_bits = search rules in
    let es : to_z w16 (of_z w16 c.args.scale.energy_bits) ≡ c.args.scale.energy_bits = to_z-of_z w16 c.args.scale.energy_bits fs in
    let ex : to_z w16 (of_z w16 c.args.x) ≡ c.args.x = to_z-of_z w16 c.args.x c.ranges.x in
    let fe : SFits w32 c.args.self.energy = search rules in
    let ee : to_z w32 (of_z w32 c.args.self.energy) ≡ c.args.self.energy = to_z-of_z w32 c.args.self.energy fe in
    to_z-of_z w32 c.add_square-energy.result (record { sfits = c.add_square-energy.type_inv }) ∙ c.add_square-energy.ensures ∙ rw (es, ex, ee) refl

pub returns-clause-low : goal.returns-clause-low
returns-clause-low c =
    let fs : SFits w16 c.args.scale.gain = search rules in
    let es : to_z w16 (of_z w16 c.args.scale.gain) ≡ c.args.scale.gain = to_z-of_z w16 c.args.scale.gain fs in
    let ex : to_z w16 (of_z w16 c.args.x) ≡ c.args.x = to_z-of_z w16 c.args.x c.ranges.x in
    c.next_band-next_low.ensures ∙ rw (es, ex) refl

pub returns-clause-high : goal.returns-clause-high
returns-clause-high c =
    let fs : SFits w16 c.args.scale.gain = search rules in
    let es : to_z w16 (of_z w16 c.args.scale.gain) ≡ c.args.scale.gain = to_z-of_z w16 c.args.scale.gain fs in
    let ex : to_z w16 (of_z w16 c.args.x) ≡ c.args.x = to_z-of_z w16 c.args.x c.ranges.x in
    c.next_band-next_high.ensures ∙ rw (es, ex) refl
