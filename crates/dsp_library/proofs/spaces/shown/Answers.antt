use Rattle.std.proofs.Common.{refl}
use Rattle.dsp_library.proofs.spaces.shown.Goals as goal
use Rattle.dsp_library.proofs.spaces.shown.Goals.{in-Record, in-Scratch}

pub returns : goal.returns
returns c =
    elim c.match-block.branch [
      | in-Record w ↦ rw (w.scratch-is, w.from.ensures, w.from-in-Record.ensures, w.in-Record.is) refl
      | in-Scratch w ↦ rw (w.scratch-is, w.from-in-Scratch.ensures, w.in-Scratch.is) refl
    ]
