-- Calls of the host, as calls of its channels.
use Rattle.std.proofs.Common.{◌≡◌, ℕ, zero, suc, List, [], replicate, refl, ap, sym, ◌∙◌, subst}
use Rattle.std.proofs.lemmas.Bool.{false≢true}
use Rattle.ialg.specs.Meaning.{Meaning}
use Rattle.ialg.specs.Laws.{Laws}
use Rattle.host_spec.specs.Calls as host_calls
use Rattle.alg_host.specs.Hosts.{HostState}
use Rattle.alg_host.specs.Hosts as hosts
use Rattle.channel_spec.specs.Channels.{Channels, members_at, has_number, has_repeat}
use Rattle.channel_spec.specs.Laws.{AreHeld}
use Rattle.channel_spec.specs.Calls.{Call, Does, IsPassedOn}
use Rattle.channel_spec.specs.Calls.Call.{OfHost}
use Rattle.channel_spec.proofs.HoldingLemmas.{call_held}
use Rattle.voice_channel.specs.Channels.{ChannelsState, ChannelsCallRefines}

module _ {M : Type 0} (laws : Laws M) where
  pub passed_on : (call : host_calls.Call M) → IsPassedOn call → (old new : HostState M) (chained : List (List ℕ))
      → hosts.HostCallRefines laws call old new
      → ChannelsCallRefines laws (OfHost call) (record { host = old; chained = chained }) (record { host = new; chained = chained })
  passed_on call on old new chained serves = λ before keeps.
      let did = serves before.host keeps.host in
      let after : Channels M = record before { host = did.0 } in
      let does : Does laws.meaning before (OfHost call) after = (on, did.1, refl) in
      (after, does, record { host = did.2; chained = keeps.chained; held = call_held before keeps.held after laws.meaning (OfHost call) does })

  -- the same of channels that are seen so
  pub served : (call : host_calls.Call M) → IsPassedOn call → (old new : HostState M) (chained : List (List ℕ)) (seen : ChannelsState M)
      → record { host = old; chained = chained } ≡ seen → hosts.HostCallRefines laws call old new
      → ChannelsCallRefines laws (OfHost call) seen (record { host = new; chained = chained })
  served call on old new chained seen e serves =
      subst (λ s. ChannelsCallRefines laws (OfHost call) s (record { host = new; chained = chained })) e
      (passed_on call on old new chained serves)

  pub read : (call : host_calls.Call M) → IsPassedOn call → (host : HostState M) (chained : List (List ℕ)) (seen : ChannelsState M)
      → record { host = host; chained = chained } ≡ seen → hosts.HostCallRefines laws call host host
      → ChannelsCallRefines laws (OfHost call) seen seen
  read call on host chained seen e serves = subst (λ s. ChannelsCallRefines laws (OfHost call) s s) e (passed_on call on host host chained serves)

-- channels of which none is chained have no members
pub unchained_at : (count c : ℕ) → members_at (replicate count []) c ≡ []
unchained_at zero c = refl
unchained_at (suc count) zero = refl
unchained_at (suc count) (suc c) = unchained_at count c

-- and whatever channels have no members hold them
pub held_of_none : {M : Type 0} (channels : Channels M) → ((c : ℕ) → members_at channels.chained c ≡ []) → AreHeld channels
held_of_none channels none = record {
  live = λ c i has. absurd (false≢true (sym (ap (λ is. has_number is i) (none c)) ∙ has));
  once = λ c. ap has_repeat (none c);
  alone = λ c d i one other. absurd (false≢true (sym (ap (λ is. has_number is i) (none c)) ∙ one));
}
