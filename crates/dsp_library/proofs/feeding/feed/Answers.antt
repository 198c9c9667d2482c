use Rattle.std.proofs.Common.{◌≡◌, ◌∙◌, refl, subst, w32, List, ℤ}
use Rattle.std.proofs.Math.Facts.{to_z-of_z}
use Rattle.std.specs.Prelude.{length, take, drop}
use Rattle.dsp_library.specs.Calls.FeedEnds.{Refused, Given}
use Rattle.dsp_library.proofs.feeding.feed.Goals as goal

pub returns-in-Err-clause-ends : goal.returns-in-Err-clause-ends
returns-in-Err-clause-ends c = Refused c.in-Err.refusal (to_z-of_z {w = w32} (record { sfits = c.code.type_inv }) ∙ c.code.ensures) c.in-Err.ensures.machine

pub returns-clause-ends : goal.returns-clause-ends
returns-clause-ends c =
    Given c.feed.new.out.items refl c.len.ensures.value
    (subst (λ (xs : List ℤ). take (length xs) c.write_first.new.out ≡ xs) c.as_slice.ensures.value c.write_first.ensures.given)
    (subst (λ (xs : List ℤ). drop (length xs) c.write_first.new.out ≡ drop (length xs) c.args.out.now) c.as_slice.ensures.value c.write_first.ensures.rest)
    c.feed.ensures.machine
