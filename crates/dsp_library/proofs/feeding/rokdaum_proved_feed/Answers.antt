use Rattle.std.proofs.Common.{◌≡◌, ◌∙◌, to_z, of_z, sym, subst, w32, ℤ}
use Rattle.std.proofs.Math.Facts.{to_z-of_z}
use Rattle.dsp_library.specs.declared.machine.Machine.{Machine}
use Rattle.dsp_library.specs.Calls.{FeedEnds}
use Rattle.dsp_library.proofs.There.{same_there}
use Rattle.dsp_library.proofs.feeding.rokdaum_proved_feed.Goals as goal

pub returns-clause-machine : goal.returns-clause-machine
returns-clause-machine c m opened is some within room =
    let its : c.deref_mut.result.now ≡ m = c.deref_mut.ensures.value ∙ same_there c.take-machine.ensures.machine is in
    let coded : to_z w32 (of_z w32 c.feed-answer.result) ≡ c.feed-answer.result = to_z-of_z {w = w32} (record { sfits = c.feed-answer.type_inv }) in
    record {
      after = c.feed-answer.new.machine;
      kept = c.put.ensures.machine;
      ends = subst
          (λ (x : Machine × ℤ). FeedEnds c.args.channel c.args.input.now x.0 c.feed-answer.new.machine x.1 c.args.out.now c.feed-answer.new.out c.feed-answer.new.count)
          (λ j. (its j, sym coded j))
          c.feed-answer.ensures.ends;
    }
