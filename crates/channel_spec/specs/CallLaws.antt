-- What the laws of calls say.
use Rattle.std.specs.Prelude.{◌≡◌, ℕ, ℤ, [], Option, Some}
use Rattle.ialg.specs.declared.refusal.Refusal.{Refusal}
use Rattle.ialg.specs.Meaning.{Meaning}
use Rattle.host_spec.specs.Answers.{AreLawful}
use Rattle.channel_spec.specs.Channels.{Channels, members_at}
use Rattle.channel_spec.specs.Calls.{Call, Does, refusal_of}
use Rattle.channel_spec.specs.Answers.{answered}
use Rattle.channel_spec.specs.Laws.{AreHeld, with_poison}

-- a refused call leaves the state as it was
abbrev pub RefusedCallsChangeNothing : Type 0 → Type 0
RefusedCallsChangeNothing M =
    (kinds : Meaning M) (before after : Channels M) (call : Call M) (refusal : Refusal)
    → Does kinds before call after → refusal_of call ≡ Some refusal → after ≡ before

-- where no channel is chained, members are held
abbrev pub HeldWhereNoneIsChained : Type 0 → Type 0
HeldWhereNoneIsChained M = (before : Channels M) → ((c : ℕ) → members_at before.chained c ≡ []) → AreHeld before

-- members that are held stay held over a call
abbrev pub CallsKeepMembersHeld : Type 0 → Type 0
CallsKeepMembersHeld M = (kinds : Meaning M) (before after : Channels M) (call : Call M) → Does kinds before call after → AreHeld before → AreHeld after

-- where the kinds are lawful, a call answers and leads to what is computed
abbrev pub LawfulCallsAreComputed : Type 0 → Type 0
LawfulCallsAreComputed M =
    (kinds : Meaning M) (before after : Channels M) (call : Call M)
    → AreLawful kinds before.host.poison → Does kinds before call after → (call, after) ≡ answered kinds before call

-- with another poison word, a call answers the same and leads to the same state but for that word
abbrev pub PoisonChangesNoAnswer : Type 0 → Type 0
PoisonChangesNoAnswer M =
    (kinds : Meaning M) (poison : Option ℤ) (before : Channels M) (call : Call M)
    → answered kinds (with_poison poison before) call ≡ ((answered kinds before call).0, with_poison poison (answered kinds before call).1)
