use Rattle.std.proofs.Common.{◌≡◌, ◌∙◌, ℤ, [], ◌∷◌, to_z, of_z, sym, subst, w16, w32}
use Rattle.std.proofs.Math.Facts.{to_z-of_z}
use Rattle.dsp_library.specs.declared.machine.Machine.{Machine}
use Rattle.dsp_library.specs.Calls.{FeedEnds}
use Rattle.dsp_library.proofs.There.{same_there}
use Rattle.dsp_library.proofs.feeding.rokdaum_proved_feed_sample.Goals as goal

pub returns-clause-machine : goal.returns-clause-machine
returns-clause-machine c m opened is some within room =
    let its : c.deref_mut.result.now ≡ m = c.deref_mut.ensures.value ∙ same_there c.take-machine.ensures.machine is in
    let coded : to_z w32 (of_z w32 c.feed_sample-answer.result) ≡ c.feed_sample-answer.result = to_z-of_z {w = w32} (record { sfits = c.feed_sample-answer.type_inv }) in
    let sample : to_z w16 (of_z w16 c.args.sample) ≡ c.args.sample = to_z-of_z {w = w16} c.ranges.sample in
    record {
      after = c.feed_sample-answer.new.machine;
      kept = c.put.ensures.machine;
      ends = subst
          (λ (x : Machine × ℤ × ℤ). FeedEnds c.args.channel (x.2 ∷ []) x.0 c.feed_sample-answer.new.machine x.1 (c.args.out.now ∷ []) (c.feed_sample-answer.new.out ∷ []) c.feed_sample-answer.new.count)
          (λ j. (its j, sym coded j, sample j))
          c.feed_sample-answer.ensures.ends;
    }
