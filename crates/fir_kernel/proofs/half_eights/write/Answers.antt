use Rattle.fir_kernel.proofs.Lanes.{kept_lanes}
use Rattle.fir_kernel.proofs.HalfLanes.{halves_fit}
use Rattle.fir_kernel.proofs.HalfEights.{put_lanes}
use Rattle.fir_kernel.proofs.half_eights.write.Goals as goal

pub returns-clause-written : goal.returns-clause-written
returns-clause-written c =
    let halves = c.args.halves in
    rw (kept_lanes halves (halves_fit halves c.requires.within)) (put_lanes halves c.args.sums.now c.args.at c.requires.eight c.requires.room)
