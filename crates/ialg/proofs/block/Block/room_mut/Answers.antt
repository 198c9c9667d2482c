use Rattle.std.proofs.Common.{ℤ, List, refl, arith, rules}
use Rattle.ialg.proofs.Blocks.{take-refill}
use Rattle.ialg.proofs.block.Block.room_mut.Goals as goal

pub returns : goal.returns
returns c =
    let inside = c.self.inside in
    let kept = λ (w : List ℤ). take-refill inside.len inside.words.items w (omega arith) in (
      (refl, λ w. rw (← c.self.view_is) (λ i. record { items = kept w i })),
      record { writes_back = tt; value = search rules; full = search rules },
    )
