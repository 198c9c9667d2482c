-- A block that passes through members, as calls of the host and as steps of its state.
use Rattle.std.proofs.Common.{◌≡◌, ℕ, ℤ, List, [], ◌∷◌, refl, sym, subst}
use Rattle.std.specs.List.{FoldsTo}
use Rattle.ialg.specs.Meaning.{Meaning}
use Rattle.host_spec.specs.State.{State}
use Rattle.host_spec.specs.Calls as host_calls
use Rattle.host_spec.specs.Calls.Call.{Process}
use Rattle.channel_spec.specs.Channels.{Channels, members_at}
use Rattle.channel_spec.specs.Calls.{Does, IsPassing}
use Rattle.channel_spec.specs.Calls.Call.{Feed}
use Rattle.channel_spec.specs.Parts.{Passes}

module _ {M : Type 0} (kinds : Meaning M) where
  -- these calls lead the host from one state to the other
  abbrev pub Led : State M → List (host_calls.Call M) → State M → Type 0
  Led before asked after = FoldsTo (host_calls.Does kinds) before asked after

  pub leads_of : (asked : List (host_calls.Call M)) (before after : State M) → Led before asked after → host_calls.Leads kinds before asked after
  leads_of [] before after led = sym led
  leads_of (call ∷ asked) before after led = (led.0, led.1, leads_of asked led.0 after led.2)

  stays : (asked : List (host_calls.Call M)) (before after : State M) → asked ≡ [] → Led before asked after → after ≡ before
  stays asked before after none led = sym (subst (λ calls. Led before calls after) none led)

  passes_of : (is : List ℕ) (before after : State M) (block out : List ℤ) (asked : List (host_calls.Call M))
      → IsPassing is block out asked → Led before asked after → Passes kinds before is block out after
  passes_of [] before after block out asked passing led = (passing.0, stays asked before after passing.1 led)
  passes_of (i ∷ is) before after [] out asked passing led = (passing.0, stays asked before after passing.1 led)
  passes_of (i ∷ is) before after (s ∷ block) out asked passing led =
      let its = subst (λ calls. Led before calls after) passing.2 led in
      (passing.0, its.0, its.1, passes_of is its.0 after passing.0 out passing.1 passing.3 its.2)

  -- the calls that ask for it
  pub asked_of : (is : List ℕ) (before after : State M) (block out : List ℤ) → Passes kinds before is block out after
      → (asked : List (host_calls.Call M)) × IsPassing is block out asked × Led before asked after
  asked_of [] before after block out passes = ([], (passes.0, refl), sym passes.1)
  asked_of (i ∷ is) before after [] out passes = ([], (passes.0, refl), sym passes.1)
  asked_of (i ∷ is) before after (s ∷ block) out passes =
      let rest = asked_of is passes.1 after passes.0 out passes.3 in
      (Process i (s ∷ block) passes.0 ∷ rest.0, (passes.0, rest.0, refl, rest.1), (passes.1, passes.2, rest.2))

  -- a block that a channel was fed passed through its members
  pub fed_passes : (before after : Channels M) (c : ℕ) (block out : List ℤ) → Does kinds before (Feed c block out) after
      → Passes kinds before.host (members_at before.chained c) block out after.host
  fed_passes before after c block out does = passes_of (members_at before.chained c) before.host after.host block out does.1 does.2 does.3
