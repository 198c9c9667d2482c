use Rattle.std.proofs.Common.{◌≡◌, true, false, ◌&&◌, sym, ◌∙◌, arith, rules}
use Rattle.std.proofs.lemmas.Int.{ints, to_z-of_z}
use Rattle.std.specs.Prelude.{ℤ, pos, neg_ℤ, ◌<ℤ◌}
use lib.Signed.{le_z}
use mir.Syntax.{w32}
use mir.Val.{SFits}
use Rattle.voice_script.specs.Readings.{Limits}
use Rattle.voice_script.specs.Script.{value_of}
use Rattle.voice_script.specs.declared.limits.TheConstants.{GREATEST_MAGNITUDE}
use Rattle.script_reasons.proofs.numbers.Range.has.Goals as goal

-- a number is in a range that ends before the greatest magnitude where what is told of it is
least_first : (least most z value : ℤ) → neg_ℤ (pos GREATEST_MAGNITUDE) <ℤ least → most <ℤ pos GREATEST_MAGNITUDE → Limits z value → le_z least value ≡ true
    → le_z value most ≡ (le_z least z && le_z z most)
least_first least most z value from to l above =
    let within = l.within in let low = l.below in let high = l.above in
    grind (arith, ints)

too_low : (least most z value : ℤ) → neg_ℤ (pos GREATEST_MAGNITUDE) <ℤ least → most <ℤ pos GREATEST_MAGNITUDE → Limits z value → le_z least value ≡ false
    → (le_z least z && le_z z most) ≡ false
too_low least most z value from to l below =
    let within = l.within in let low = l.below in let high = l.above in
    grind (arith, ints)

pub returns-then-self-value : goal.returns-then-self-value
returns-then-self-value c =
    let v : SFits w32 c.in-Some.value = search rules in
    let l : SFits w32 c.args.self.least = search rules in
    let m : SFits w32 c.args.self.most = search rules in
    let above : le_z c.args.self.least c.in-Some.value ≡ true = rw (to_z-of_z w32 c.args.self.least l, to_z-of_z w32 c.in-Some.value v) at c.if-self-value.true in
    rw (to_z-of_z w32 c.in-Some.value v, to_z-of_z w32 c.args.self.most m, c.in-Some.ensures.0)
    (least_first c.args.self.least c.args.self.most (value_of c.args.word.now) c.in-Some.value c.args.self.from c.args.self.to c.in-Some.ensures.1 above)

pub returns-else-self-value : goal.returns-else-self-value
returns-else-self-value c =
    let v : SFits w32 c.in-Some.value = search rules in
    let l : SFits w32 c.args.self.least = search rules in
    let below : le_z c.args.self.least c.in-Some.value ≡ false = rw (to_z-of_z w32 c.args.self.least l, to_z-of_z w32 c.in-Some.value v) at c.if-self-value.false in
    c.if-self-value.false
    ∙ sym (rw (c.in-Some.ensures.0) (too_low c.args.self.least c.args.self.most (value_of c.args.word.now) c.in-Some.value c.args.self.from c.args.self.to c.in-Some.ensures.1 below))
