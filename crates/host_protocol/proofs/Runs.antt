-- Whatever a new host is called, the calls that each instance gets are in order.
use Rattle.std.proofs.Common.{◌≡◌, ℕ, List, [], ◌∷◌, ◌++◌, Option, Some, None, refl, ap, sym, ◌∙◌, subst}
use Rattle.std.proofs.lemmas.Option.{none-some}
use Rattle.ialg.specs.Meaning.{Meaning}
use Rattle.host_spec.specs.State.{Living, State, new_state}
use Rattle.host_spec.specs.Calls.{Call, Does}
use Rattle.ialg.specs.Log.{Called}
use Rattle.host_protocol.specs.Protocol.{calls_made}
use Rattle.host_protocol.specs.Order.{Stage, Unborn, stage_by, stage_then, stage_of, ActiveLive, since_creation, calls_after, LeadsTo, AreInOrder, RunsAreInOrder}
use Rattle.host_protocol.proofs.Stages.{stage_behind}
use Rattle.host_protocol.proofs.InOrder.{in_order}
use Rattle.host_protocol.proofs.StillLive.{still_live}

-- what an instance has got leads to its stage, and nothing to that of one that doesn't live
stage_before : {M : Type 0} (state : State M) (j : ℕ) (had : List Called) (living : Option (Living M)) → state.living j ≡ living
    → ((x : Living M) → state.living j ≡ Some x → stage_by Unborn had ≡ Some (stage_of state j (state.living j)))
    → stage_by Unborn (since_creation (state.living j) had) ≡ Some (stage_of state j (state.living j))
stage_before state j had None e before = rw e refl
stage_before state j had (Some x) e before = ap (λ (l : Option (Living _)). stage_by Unborn (since_creation l had)) e ∙ before x e

module _ {M : Type 0} (kinds : Meaning M) where
  one_call : (before after : State M) (call : Call M) (had : ℕ → List Called) → Does kinds before call after → ActiveLive before
      → AreInOrder before had → AreInOrder after (calls_after kinds before call after had)
  one_call before after call had does live ordered j x lives =
      stage_behind Unborn (stage_of before j (before.living j)) (calls_made kinds before call after j) (since_creation (before.living j) (had j))
      (stage_before before j (had j) (before.living j) refl (ordered j))
      ∙ in_order kinds before after call j x does live lives

  all_calls : (calls : List (Call M)) (before after : State M) (had got : ℕ → List Called) → LeadsTo kinds before had calls after got → ActiveLive before
      → AreInOrder before had → AreInOrder after got
  all_calls [] before after had got leads live ordered =
      subst (λ (g : ℕ → List Called). AreInOrder after g) (sym leads.1) (subst (λ (s : State M). AreInOrder s had) (sym leads.0) ordered)
  all_calls (call ∷ calls) before after had got leads live ordered =
      all_calls calls leads.0 after (calls_after kinds before call leads.0 had) got leads.2
      (still_live kinds before leads.0 call leads.1 live) (one_call before leads.0 call had leads.1 live ordered)

pub runs_in_order : (M : Type 0) → RunsAreInOrder M
runs_in_order M kinds sizes poison calls after got leads =
    all_calls kinds calls (new_state sizes poison) after (λ j. []) got leads (λ g j active. absurd (none-some j active)) (λ j x lives. absurd (none-some x lives))
