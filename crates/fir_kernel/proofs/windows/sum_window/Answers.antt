use Rattle.std.proofs.Common.{◌≡◌, ◌+◌, ◌-◌, ◌*◌, length, map, to_z, w32, arith, refl, subst}
use Rattle.fir_kernel.specs.Windows.{IsSpread, window_sum}
use Rattle.fir_kernel.proofs.Lanes.{kept, kept_spread, no_lanes, run_more, part_fits}
use Rattle.fir_kernel.proofs.windows.sum_window.Goals as goal

pub loop-register-init : goal.loop-register-init
loop-register-init g c = no_lanes c.args.taps.now c.args.line.now c.args.from

pub add_products-sums-requires-clause-words : goal.add_products-sums-requires-clause-words
add_products-sums-requires-clause-words g c = part_fits (16 * c.loop-register.register) (16 * c.loop-register.register + 16 - 16 * c.loop-register.register) c.args.taps.now c.requires.words

pub loop-register-preserved : goal.loop-register-preserved
loop-register-preserved g c =
    let taps = c.args.taps.now in
    let line = c.args.line.now in
    let register = c.loop-register.register in
    let lanes = c.add_products-sums.result in
    kept_spread lanes _ (run_more taps line lanes c.args.from register (c.args.from + 16 * register) (omega arith) refl (c.add_products-sums.ensures _ c.loop-register.invariant))

pub returns : goal.returns
returns g c =
    let all : 16 * c.loop-register.register ≡ length c.args.taps.now = omega arith in
    kept c.fold.result _ (c.fold.ensures _ (subst (λ n. IsSpread (map (to_z w32) c.loop-register.sums) (window_sum c.args.taps.now c.args.line.now c.args.from n)) all c.loop-register.invariant))
