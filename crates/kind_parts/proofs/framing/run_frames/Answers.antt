use Rattle.std.proofs.Common.{◌≡◌, length, add-one, rules, ◌∙◌, arith}
use Rattle.std.proofs.lemmas.Int.{to_z-of_z}
use mir.Val.{SFits, to_z, of_z}
use mir.Syntax.{w16}
use Rattle.ialg.specs.History.{word_at}
use Rattle.ialg.proofs.Histories.{fits_more}
use Rattle.kind_parts.proofs.Framings.{length_is, gives_more, frames_on}
use Rattle.kind_parts.proofs.framing.run_frames.Goals as goal

pub loop-x-preserved : goal.loop-x-preserved
loop-x-preserved g c =
    let F = g.K.Framing in
    let p = c.args.p.now in
    let xs = c.args.input.now in
    let i = c.loop-x.x-index in
    let fx : SFits w16 (word_at xs i) = search rules in
    let ex : to_z w16 (of_z w16 (word_at xs i)) ≡ word_at xs i = to_z-of_z w16 (word_at xs i) fx in
    let grows = rw ex at c.grow.ensures in
    let few = c.loop-x.invariant.count in
    let bounded = c.finish.ensures.bounded in
    record {
      count = omega arith;
      size = c.finish.auto.words ∙ c.grow.auto.words ∙ c.loop-x.invariant.size;
      fit = fits_more xs i c.loop-x.invariant.fit fx;
      gives = λ h state.
          let more = gives_more F.state_of F.told p (length_is F.taken p c.requires.takes) h xs i c.loop-x.words c.grow.new.words c.finish.new.words
          c.loop-x.out.items c.finish.new.out.items c.loop-x-test.true (c.loop-x.invariant.gives h state) grows c.finish.ensures.full c.finish.ensures.unfinished in
          rw add-one more;
    }

pub returns-clause-law : goal.returns-clause-law
returns-clause-law g c h =
    let F = g.K.Framing in
    let p = c.args.p.now in
    let xs = c.args.input.now in
    let i = c.loop-x.x-index in
    let whole : i ≡ length xs = omega arith in
    frames_on F.state_of F.told p (length_is F.taken p c.requires.takes) h xs i c.args.words.now c.loop-x.words c.loop-x.out.items whole
    c.loop-x.invariant.fit (c.loop-x.invariant.gives h)
