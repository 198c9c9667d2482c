-- What left comes back.
use Rattle.std.proofs.Common.{◌∙◌}
use Rattle.space_raw.specs.Slots.{with_run}
use Rattle.space_raw.proofs.Slots.{run_returned}
use Rattle.test_memory.proofs.regions.leave_and_return.Goals as goal

pub returns : goal.returns
returns c =
    let gone = c.carve-piece.ensures.rest in let piece = c.carve-piece.ensures.piece in
    let region = c.absorb.ensures.region ∙ gone.0 in
    let slots = c.absorb.ensures.words ∙ (λ i. with_run (gone.1 i) (piece.1 i) (piece.2 i)) ∙ run_returned c.args.rest.now.slots c.args.place c.args.len c.requires.there in
    record { same = λ i. record { region = region i; slots = slots i } }
