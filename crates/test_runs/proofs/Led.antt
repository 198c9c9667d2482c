-- Calls that are served lead from a state that was refined to one that is refined.
use Rattle.std.proofs.Common.{List, [], ◌∷◌, refl, sym, subst}
use Rattle.gateway_kinds.specs.Kinds.{Kind, kind_meaning}
use Rattle.channel_spec.specs.Channels.{Channels}
use Rattle.channel_spec.specs.Calls.{Call}
use Rattle.gateway_kinds.specs.Keeps.{kind_laws}
use Rattle.voice_channel.specs.Channels.{ChannelsState, ChannelsRefine}
use Rattle.console_spec.specs.HostRuns.{Leads}
use Rattle.test_runs.specs.Served.{AreServed}

pub led : (calls : List (Call Kind)) (old new : ChannelsState Kind) (before : Channels Kind) → AreServed calls old new → ChannelsRefine kind_laws old before
    → (after : Channels Kind) × Leads kind_meaning before calls after × ChannelsRefine kind_laws new after
led [] old new before same keeps = (before, refl, subst (λ (c : ChannelsState Kind). ChannelsRefine kind_laws c before) (sym same) keeps)
led (call ∷ calls) old new before served keeps =
    let did = served.1 before keeps in let rest = led calls served.0 new did.0 served.2 did.2 in
    (rest.0, (did.0, did.1, rest.1), rest.2)
