use Rattle.std.proofs.Common.{rules, length, ◌≡◌, ◌+◌, ◌-◌, ◌<◌, pos, unsigned_abs, w16, SFits, ap, subst, sym, ◌∙◌}
use Rattle.std.specs.Int.{int_max}
use Rattle.std.proofs.lemmas.Int.{to_z-of_z}
use Rattle.std.proofs.lemmas.Nat.{mod_below}
use Rattle.basic_op.specs.Operators.{sub_of}
use Rattle.ialg.specs.History.{samples_since_reset, samples_in_frame}
use Rattle.alg_tone.specs.Equation.{frame_length}
use Rattle.alg_tone.proofs.Limits.{before_last}
use Rattle.alg_tone.proofs.kernel.Tuning.room.Goals as goal

pub returns : goal.returns
returns c p h tuned frame =
    let n = samples_in_frame (frame_length p) h in
    let m = frame_length p in
    let few = tuned.few in
    let below : n < m = mod_below (length (samples_since_reset h)) m tuned.some in
    let fm : SFits w16 c.args.self.samples = search rules in
    let fn : SFits w16 c.args.frame.samples = search rules in
    let fl : SFits w16 c.sub-left.result = search rules in
    let fs : SFits w16 c.max-some.result = search rules in
    let left : c.sub-left.result ≡ sub_of (pos m) (pos n) =
    rw (to_z-of_z w16 c.args.self.samples fm ∙ tuned.samples, to_z-of_z w16 c.args.frame.samples fn ∙ frame.samples) at c.sub-left.ensures in
    let some : c.max-some.result ≡ int_max (sub_of (pos m) (pos n)) (pos 1) =
    c.max-some.ensures.value ∙ ap (λ z. int_max z (pos 1)) (to_z-of_z w16 c.sub-left.result fl ∙ left) in
    let r : c.from.result ≡ unsigned_abs (int_max (sub_of (pos m) (pos n)) (pos 1)) =
    c.from.ensures ∙ c.unsigned_abs.ensures.value ∙ ap unsigned_abs (to_z-of_z w16 c.max-some.result fs ∙ some) in
    subst (λ r. n + (r - 1) < m) (sym r) (before_last n m below few)
