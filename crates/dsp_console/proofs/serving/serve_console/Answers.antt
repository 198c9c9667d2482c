use Rattle.dsp_console.proofs.LivesLemmas.{both, nothing}
use Rattle.dsp_console.proofs.serving.serve_console.Goals as goal

pub serve-requires : goal.serve-requires
serve-requires g c κs within = (
  (λ a. (both (both (within.0 a) nothing) (both (both (both (within.0 a) nothing) (both (both (both (within.0 a) nothing) (both (both (both (within.0 a) nothing) (both (both (both (both (both (both (both (within.0 a) nothing) (both (both (both (within.0 a) nothing) (both (both (both (both (within.0 a) nothing) (both (both (both (within.0 a) nothing) (both (within.0 a) nothing)) nothing)) nothing) (both (both (both (both (within.0 a) nothing) (both (both (both (within.0 a) nothing) (both (within.0 a) nothing)) nothing)) nothing) nothing))) nothing)) nothing) (both (both (both (both (within.0 a) nothing) (both (both (both (within.0 a) nothing) (both (both (both (both (within.0 a) nothing) (both (both (both (within.0 a) nothing) (both (within.0 a) nothing)) nothing)) nothing) (both (both (both (both (within.0 a) nothing) (both (both (both (within.0 a) nothing) (both (within.0 a) nothing)) nothing)) nothing) nothing))) nothing)) nothing) nothing)) nothing) nothing) nothing)) nothing)) nothing)) nothing))),
  (
    within.1.0,
    (
      within.1.1.0,
      (
        within.1.1.1.0,
        (
          within.1.1.1.1,
          (c.requires.kept, (c.requires.script, (c.requires.one, (c.requires.pairs, c.requires.ready)))),
        ),
      ),
    ),
  ),
)

pub returns-in-Ok-clause-ok : goal.returns-in-Ok-clause-ok
returns-in-Ok-clause-ok g c = c.in-Ok.ensures.ok
