use Rattle.std.proofs.Common.{◌-ℤ◌, w16, w32, SFits, rules, ◌∙◌}
use Rattle.std.proofs.lemmas.Int.{to_z-of_z}
use Rattle.ialg.specs.History.{word_at}
use Rattle.alg_biquad.proofs.HalfLemmas.{by_halves, half_less, word_above}
use Rattle.alg_biquad.proofs.kernel.plain_output.Goals as goal

pub returns : goal.returns
returns c =
    let cs = c.args.c.now in
    let s = c.args.state.now in
    let f0 : SFits w16 (word_at cs 0) = search rules in
    let f1 : SFits w16 (word_at cs 1) = search rules in
    let f2 : SFits w16 (word_at cs 2) = search rules in
    let f3 : SFits w16 (word_at cs 3) = search rules in
    let f4 : SFits w16 (word_at cs 4) = search rules in
    let fx1 : SFits w16 s.x1 = search rules in
    let fx2 : SFits w16 s.x2 = search rules in
    let fy1 : SFits w16 s.y1 = search rules in
    let fy2 : SFits w16 s.y2 = search rules in
    let first = c.half_product-first.result in
    let second = c.in_ok-second.second in
    let third = c.in_ok-third.third in
    let newer = c.half_product-newer.result in
    let older = c.half_product-older.result in
    let fourth = c.in_ok-_fourth._fourth in
    let ffirst : SFits w32 first = search rules in
    let fsecond : SFits w32 second = search rules in
    let fthird : SFits w32 third = search rules in
    let fnewer : SFits w32 newer = search rules in
    let folder : SFits w32 older = search rules in
    let fdifference : SFits w32 (third -ℤ newer) = search rules in
    let a = rw (to_z-of_z w16 (word_at cs 0) f0, to_z-of_z w16 c.args.x c.ranges.x) at c.half_product-first.ensures.half in
    let b = rw (to_z-of_z w32 first ffirst, to_z-of_z w16 (word_at cs 1) f1, to_z-of_z w16 s.x1 fx1) at c.in_ok-second.ensures in
    let d = rw (to_z-of_z w32 second fsecond, to_z-of_z w16 (word_at cs 2) f2, to_z-of_z w16 s.x2 fx2) at c.in_ok-third.ensures in
    let e = rw (to_z-of_z w16 (word_at cs 3) f3, to_z-of_z w16 s.y1 fy1) at c.half_product-newer.ensures.half in
    let f = rw (to_z-of_z w16 (word_at cs 4) f4, to_z-of_z w16 s.y2 fy2) at c.half_product-older.ensures.half in
    let found = rw (to_z-of_z w32 third fthird, to_z-of_z w32 newer fnewer, to_z-of_z w32 (third -ℤ newer) fdifference) at c.in_ok-_fourth.ensures in
    let rounded = rw (to_z-of_z w32 third fthird, to_z-of_z w32 newer fnewer, to_z-of_z w32 older folder, ← found.0) at c.rounded_less.ensures in
    to_z-of_z w16 c.rounded_less.result (record { sfits = c.rounded_less.type_inv })
    ∙ by_halves (word_at cs) c.args.x s.x1 s.x2 s.y1 s.y2 first second third fourth older c.rounded_less.result a b d (half_less third newer (word_at cs 3) s.y1 fourth e found.0 found.1) f rounded

pub plus_product-requires-clause-above : goal.plus_product-requires-clause-above
plus_product-requires-clause-above c = word_above (word_at c.args.c.now 1) (c.requires.above 1)

pub half_product-newer-requires : goal.half_product-newer-requires
half_product-newer-requires c = word_above (word_at c.args.c.now 3) (c.requires.above 3)

pub half_product-older-requires : goal.half_product-older-requires
half_product-older-requires c = word_above (word_at c.args.c.now 4) (c.requires.above 4)
