use Rattle.std.proofs.Common.{rules, arith, FitsSigned, w16, ◌≡◌, ℤ, List, All, length, replicate, ap, ◌∙◌}
use Rattle.std.proofs.lemmas.Grind.{common_steps}
use Rattle.std.proofs.lemmas.Int.{to_z-of_z}
use Rattle.std.specs.List.{refill}
use Rattle.host_spaces.proofs.placing.place_filled.Goals.{in-Some, in_default}
use Rattle.host_spaces.proofs.placing.place_filled.Goals as goal

all_filled : (ws ys : List ℤ) (v : ℤ) → ys ≡ replicate (length ws) v → All (λ x. x ≡ v) (refill (length ws) ws ys)
all_filled ws ys v e = rw e (grind (arith, common_steps))

pub returns-clause-poison : goal.returns-clause-poison
returns-clause-poison c = elim c.match-poison.branch [
  | in-Some w ↦
      let fits : FitsSigned w16 w.in-Some.word = search rules in
      rw (w.in-Some.is, w.piece-is)
      (all_filled c.in_ok-piece.piece.words w.fill.new.self w.in-Some.word
      ((rw w.words_mut.ensures.value at (w.fill.ensures.after (λ y same. same)))
      ∙ ap (replicate (length c.in_ok-piece.piece.words)) (to_z-of_z w16 w.in-Some.word fits)))
  | in_default w ↦ rw w.in_default.is tt
]
