-- The tag shares no place with the other words.
use Rattle.std.proofs.Common.{[], ◌∷◌, ◌∙◌, ap, inl}
use Rattle.space_raw.specs.Slots.{run_of}
use Rattle.space_raw.proofs.Slots.{run_elsewhere}
use Rattle.test_memory.proofs.regions.tag_behind.Goals as goal

pub returns-clause-others : goal.returns-clause-others
returns-clause-others c =
    let other = c.args.other in
    ap (λ cs. run_of cs other 2) c.set_tag.ensures.words ∙ run_elsewhere c.args.rest.now.slots c.args.place (c.args.tag.0 ∷ c.args.tag.1 ∷ []) other 2 c.requires.there.0.1 (inl c.requires.behind)
