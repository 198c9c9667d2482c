use Rattle.std.proofs.Common.{ap, sym, ◌∙◌}
use Rattle.std.proofs.lemmas.Bool.{false≢true}
use Rattle.channel_spec.specs.Channels.{has_number, has_repeat}
use Rattle.channel_spec.proofs.HoldingLemmas.{call_held}
use Rattle.channel_spec.proofs.laws.members_live_in_one_channel.Goals as goal

pub returns-clause-start : goal.returns-clause-start
returns-clause-start g c = λ before none. record {
  live = λ d i has. absurd (false≢true (sym (ap (λ is. has_number is i) (none d)) ∙ has));
  once = λ d. ap has_repeat (none d);
  alone = λ d e i one other. absurd (false≢true (sym (ap (λ is. has_number is i) (none d)) ∙ one));
}

pub returns-clause-kept : goal.returns-clause-kept
returns-clause-kept g c = λ kinds before after call does held. call_held before held after kinds call does
