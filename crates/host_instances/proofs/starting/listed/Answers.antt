use Rattle.std.proofs.Common.{◌≡◌, ℕ, zero, suc, refl, [], ◌∷◌}
use Rattle.host_map.specs.Creation.{sharer_at as listed_at}
use Rattle.host_shared.specs.declared.joining.Sharers.{Sharers}
use Rattle.host_shared.specs.Joining.{sharer_at}
use Rattle.host_instances.proofs.starting.listed.Goals as goal

each : (t : Sharers) (k : ℕ) → listed_at (t.t0 ∷ t.t1 ∷ t.t2 ∷ t.t3 ∷ []) k ≡ sharer_at t k
each t zero = refl
each t (suc zero) = refl
each t (suc (suc zero)) = refl
each t (suc (suc (suc zero))) = refl
each t (suc (suc (suc (suc k)))) = refl

pub returns : goal.returns
returns c = each c.args.sharers.now
