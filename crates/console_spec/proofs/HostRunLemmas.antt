-- A run of calls of channels is a run of calls of their host.
use Rattle.std.proofs.Common.{◌≡◌, Bool, true, false, List, [], ◌∷◌, ◌++◌, Option, Some, None, Result, Ok, Err, refl, ap, sym, ◌∙◌, subst, append_assoc}
use Rattle.std.specs.Prelude.{not, is_none}
use Rattle.ialg.specs.declared.refusal.Refusal.{Refusal}
use Rattle.ialg.specs.declared.refusal.Refusal.TheVariants.{Range, Missing, Busy}
use Rattle.ialg.specs.Refusals.{first_refusal}
use Rattle.ialg.specs.Meaning.{Meaning}
use Rattle.host_spec.specs.State.{State, is_instance_number}
use Rattle.host_spec.specs.Steps as steps
use Rattle.host_spec.specs.Steps.{unless}
use Rattle.host_spec.specs.Calls as host_calls
use Rattle.host_spec.specs.Calls.Call.{Delete, Process}
use Rattle.channel_spec.specs.Channels.{Channels, is_in_channel}
use Rattle.channel_spec.specs.Steps.{channel_refusal}
use Rattle.channel_spec.specs.Parts.{with_members, on_host, chain_refusal, delete_refusal}
use Rattle.channel_spec.specs.Calls.{Call, Does}
use Rattle.channel_spec.specs.Calls.Call.{Chain, Unchain, Remove, Ready, Feed, OfHost}
use Rattle.channel_spec.proofs.PassingLemmas.{leads_of}
use Rattle.console_spec.specs.HostRuns.{AsHostCalls, Leads, RunsOnHost}

err_is_no_ok : {A E : Type 0} (r : E) (a : A) → ◌≡◌ {A = Result A E} (Err r) (Ok a) → ⊥
err_is_no_ok r a e = cc

module _ {M : Type 0} (before after : Channels M) where
  -- what changes no host leaves it, granted or refused
  host_stays : {A : Type 0} (r : Option Refusal) (answer : Result A Refusal) (a : A) (next : Channels M) → next.host ≡ before.host
      → (answer, after) ≡ unless r before (Ok a, next) → after.host ≡ before.host
  host_stays None answer a next same e = ap (λ o. o.1.host) e ∙ same
  host_stays (Some refusal) answer a next same e = ap (λ o. o.1.host) e

  -- a refused call leaves the host
  refused_stays : {A : Type 0} (r : Option Refusal) (refusal : Refusal) (a : A) (next : Channels M)
      → (Err refusal, after) ≡ unless r before (Ok a, next) → after.host ≡ before.host
  refused_stays None refusal a next e = absurd (err_is_no_ok refusal a (ap (λ o. o.0) e))
  refused_stays (Some other) refusal a next e = ap (λ o. o.1.host) e

  -- where a channel's instance is deleted, the host deletes it
  deleted : (range none busy : Bool) (done : Unit {0}) (gone : State M)
      → (Ok done, after) ≡ unless (first_refusal ((range, Range) ∷ (none, Missing) ∷ (busy, Busy) ∷ [])) before
      (Ok (tt {0}), on_host before (steps.unless (first_refusal ((range, Range) ∷ (none, Missing) ∷ [])) before.host (Ok (tt {0}), gone)).1)
      → (Ok done, after.host) ≡ steps.unless (first_refusal ((range, Range) ∷ (none, Missing) ∷ [])) before.host (Ok (tt {0}), gone)
  deleted true none busy done gone e = absurd (err_is_no_ok Range done (ap (λ o. o.0) (sym e)))
  deleted false true busy done gone e = absurd (err_is_no_ok Missing done (ap (λ o. o.0) (sym e)))
  deleted false false true done gone e = absurd (err_is_no_ok Busy done (ap (λ o. o.0) (sym e)))
  deleted false false false done gone e = ap (λ o. (o.0, o.1.host)) e

module _ {M : Type 0} (kinds : Meaning M) where
  -- the call asks this of the host
  abbrev Asks : Channels M → Call M → Channels M → Type 0
  Asks before call after = (asked : List (host_calls.Call M)) × AsHostCalls before.chained call asked × host_calls.Leads kinds before.host asked after.host

  pub asks : (before after : Channels M) (call : Call M) → Does kinds before call after → Asks before call after
  asks before after (Chain c members answer) does =
      ([], refl, host_stays before after (chain_refusal before c members) answer tt (with_members before c members) refl does)
  asks before after (Unchain c answer) does = ([], refl, host_stays before after (channel_refusal before c) answer tt (with_members before c []) refl does)
  asks before after (Remove i (Ok done)) does =
      (Delete i (Ok done) ∷ [], refl, (after.host, deleted before after (not (is_instance_number i)) (is_none (before.host.living i)) (is_in_channel before.chained i) done (steps.without_instance kinds before.host i (before.host.living i)) does, refl))
  asks before after (Remove i (Err refusal)) does =
      ([], refl, refused_stays before after (delete_refusal before i) refusal tt (on_host before (steps.delete kinds before.host i).1) does)
  asks before after (Ready c answer) does = ([], refl, host_stays before after (channel_refusal before c) answer tt before refl does)
  asks before after (Feed c block out) does = (does.1, does.2, leads_of kinds does.1 before.host after.host does.3)
  asks before after (OfHost call) does = (call ∷ [], refl, (after.host, does.1, refl))

  -- one run after the other
  pub leads_on : (calls more : List (host_calls.Call M)) (before mid after : State M)
      → host_calls.Leads kinds before calls mid → host_calls.Leads kinds mid more after → host_calls.Leads kinds before (calls ++ more) after
  leads_on [] more before mid after first then = subst (λ s. host_calls.Leads kinds s more after) first then
  leads_on (call ∷ calls) more before mid after first then = (first.0, first.1, leads_on calls more first.0 mid after first.2 then)

  pub runs : (calls : List (Call M)) (before after : Channels M) → Leads kinds before calls after
      → (asked : List (host_calls.Call M)) × RunsOnHost kinds before calls asked after × host_calls.Leads kinds before.host asked after.host
  runs [] before after leads = ([], (refl, leads), ap (λ channels. channels.host) leads)
  runs (call ∷ calls) before after leads =
      let between = leads.0 in
      let first = asks before between call leads.1 in
      let rest = runs calls between after leads.2 in
      (first.0 ++ rest.0, (between, first.0, rest.0, leads.1, first.1, rest.1, refl), leads_on first.0 rest.0 before.host between.host after.host first.2 rest.2)

  -- runs of both, one after the other
  pub runs_on : (calls more : List (Call M)) (asked later : List (host_calls.Call M)) (before mid after : Channels M)
      → RunsOnHost kinds before calls asked mid → RunsOnHost kinds mid more later after → RunsOnHost kinds before (calls ++ more) (asked ++ later) after
  runs_on [] more asked later before mid after first then =
      subst (λ (s : Channels M). RunsOnHost kinds s more (asked ++ later) after) first.1 (subst (λ xs. RunsOnHost kinds mid more (xs ++ later) after) (sym first.0) then)
  runs_on (call ∷ calls) more asked later before mid after first then = (
    first.0,
    first.1,
    first.2 ++ later,
    first.3,
    first.4,
    runs_on calls more first.2 later first.0 mid after first.5 then,
    ap (λ xs. xs ++ later) first.6 ∙ append_assoc first.1 first.2 later,
  )
