use Rattle.std.proofs.Common.{◌≡◌, length, add-one, rules, arith}
use Rattle.std.proofs.lemmas.Int.{to_z-of_z}
use mir.Val.{SFits, to_z, of_z}
use mir.Syntax.{w16}
use Rattle.ialg.specs.History.{word_at}
use Rattle.ialg.proofs.Histories.{fits_more}
use Rattle.kind_parts.proofs.Blocks.{none_goes_on}
use Rattle.alg_dtmf.specs.declared.kernel.Frame.{Frame}
use Rattle.alg_dtmf.specs.Equation.{dtmf_gives}
use Rattle.alg_dtmf.proofs.Factors.{gain_small, low_above_least, high_above_least}
use Rattle.alg_dtmf.proofs.Steps.{IsGrown, Finishes, IsRead, IsDigits, gives_more, is_digits, ran}
use Rattle.alg_dtmf.proofs.kernel.detect.Goals as goal

pub loop-x-init : goal.loop-x-init
loop-x-init c =
    let xs = c.args.input.now in
    let read = c.read-frame.ensures in
    let empty = c.requires.empty in
    record {
      count = rw empty (omega arith);
      fit = λ k b. absurd (omega arith);
      gives = λ p h tuned same state.
          let first : IsRead c.args.state.now c.read-frame.result = record { samples = read.samples; energy = read.energy; low_a = read.low_a; low_b = read.low_b; low_c = read.low_c; low_d = read.low_d; high_a = read.high_a; high_b = read.high_b; high_c = read.high_c; high_d = read.high_d } in
          rw empty (none_goes_on Frame (dtmf_gives p) (IsDigits p) h xs c.read-frame.result (is_digits p h c.args.state.now c.read-frame.result state first));
    }

pub with-requires-clause-gain : goal.with-requires-clause-gain
with-requires-clause-gain c = rw c.requires.tuned (gain_small (word_at c.args.parameters.now 1))

pub with-requires-clause-low : goal.with-requires-clause-low
with-requires-clause-low c = rw c.requires.tuned low_above_least

pub with-requires-clause-high : goal.with-requires-clause-high
with-requires-clause-high c = rw c.requires.tuned high_above_least

pub loop-x-preserved : goal.loop-x-preserved
loop-x-preserved c =
    let xs = c.args.input.now in
    let words = c.args.parameters.now in
    let i = c.loop-x.x-index in
    let zs = c.finish-frame.new.out.items in
    let more = c.with.ensures in
    let fx : SFits w16 (word_at xs i) = search rules in
    let ex : to_z w16 (of_z w16 (word_at xs i)) ≡ word_at xs i = to_z-of_z w16 (word_at xs i) fx in
    let grows : IsGrown (word_at words 1) (word_at xs i) c.loop-x.frame c.with.result = record {
      samples = more.samples;
      energy = rw (ex, c.requires.tuned) at more.energy;
      low = rw (ex, c.requires.tuned) at more.low;
      high = rw (ex, c.requires.tuned) at more.high;
    } in
    let ends : Finishes words c.with.result c.finish-frame.result c.loop-x.out.items zs = record {
      full = c.finish-frame.ensures.full;
      unfinished = c.finish-frame.ensures.unfinished;
    } in
    let few = c.loop-x.invariant.count in
    let bounded = c.finish-frame.ensures.bounded in
    record {
      count = omega arith;
      fit = fits_more xs i c.loop-x.invariant.fit fx;
      gives = λ p h tuned same state.
          let gives = gives_more p h xs c.loop-x.out.items zs i c.loop-x.frame c.with.result c.finish-frame.result
          c.loop-x-test.true tuned (c.loop-x.invariant.gives p h tuned same state) (rw same at grows) (rw same at ends) in
          rw add-one gives;
    }

pub returns-clause-law : goal.returns-clause-law
returns-clause-law c p h tuned same state =
    let xs = c.args.input.now in
    let i = c.loop-x.x-index in
    let whole : i ≡ length xs = omega arith in
    ran p h xs c.write.new.words c.loop-x.out.items i c.loop-x.frame whole c.loop-x.invariant.fit (c.loop-x.invariant.gives p h tuned same state) c.write.ensures
