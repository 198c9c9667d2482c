-- What a refused call leaves.
use Rattle.std.proofs.Common.{◌≡◌, Option, Some, None, Result, Ok, ap, sym, ◌∙◌}
use Rattle.std.specs.Result.{result_err}
use Rattle.std.proofs.lemmas.Option.{none-some}
use Rattle.ialg.specs.declared.refusal.Refusal.{Refusal}
use Rattle.ialg.specs.Meaning.{Meaning}
use Rattle.host_spec.specs.State.{State}
use Rattle.host_spec.specs.Steps.{unless}
use Rattle.host_spec.specs.Calls as host_calls
use Rattle.channel_spec.specs.Channels.{Channels}
use Rattle.channel_spec.specs.Steps.{channel_refusal}
use Rattle.channel_spec.specs.Parts.{chain_refusal, delete_refusal}
use Rattle.channel_spec.specs.Calls.{Call, Does, refusal_of}
use Rattle.channel_spec.specs.Calls.Call.{Chain, Unchain, Remove, Ready, Feed, OfHost}

module _ {M : Type 0} (before after : Channels M) (refusal : Refusal) where
  refused : (answer : Result (Unit {0}) Refusal) (granted : Channels M) (r : Option Refusal) → (answer, after) ≡ unless r before (Ok tt, granted)
      → result_err answer ≡ Some refusal → after ≡ before
  refused answer granted None e f = absurd (none-some refusal (ap (λ o. result_err o.0) (sym e) ∙ f))
  refused answer granted (Some r) e f = ap (λ o. o.1) e

  same : after.host ≡ before.host → after.chained ≡ before.chained → after ≡ before
  same e f = ap (λ h. record after { host = h }) e ∙ ap (λ h. record before { chained = h }) f

  pub left : (kinds : Meaning M) → ((b a : State M) (call : host_calls.Call M) → host_calls.Does kinds b call a → host_calls.refusal_of call ≡ Some refusal → a ≡ b)
      → (call : Call M) → Does kinds before call after → refusal_of call ≡ Some refusal → after ≡ before
  left kinds law (Chain c members answer) does e = refused answer _ (chain_refusal before c members) does e
  left kinds law (Unchain c answer) does e = refused answer _ (channel_refusal before c) does e
  left kinds law (Remove i answer) does e = refused answer _ (delete_refusal before i) does e
  left kinds law (Ready c answer) does e = refused answer _ (channel_refusal before c) does e
  left kinds law (Feed c block out) does e = absurd (none-some refusal e)
  left kinds law (OfHost call) does e = same (law before.host after.host call does.1 e) does.2
