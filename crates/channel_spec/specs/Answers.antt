-- What is answered where the kinds are lawful: then nothing is free, and the machine is a function.
use Rattle.std.specs.Prelude.{ℕ, ℤ, List, [], ◌∷◌}
use Rattle.ialg.specs.Meaning.{Meaning}
use Rattle.host_spec.specs.State.{State}
use Rattle.host_spec.specs.Steps.{processed}
use Rattle.host_spec.specs.Answers as host_answers
use Rattle.host_spec.specs.Answers.{output_at}
use Rattle.channel_spec.specs.Channels.{Channels, members_at}
use Rattle.channel_spec.specs.Steps.{chain, unchain, delete, ready}
use Rattle.channel_spec.specs.Parts.{on_host}
use Rattle.channel_spec.specs.Calls.{Call}
use Rattle.channel_spec.specs.Calls.Call.{Chain, Unchain, Remove, Ready, Feed, OfHost}

module _ {M : Type 0} (kinds : Meaning M) where
  -- what the last member gives for a block that passes through them in order, and the host after it
  abbrev pub passed : State M → List ℕ → List ℤ → List ℤ × State M
  passed before [] block = (block, before)
  passed before (i ∷ is) [] = ([], before)
  passed before (i ∷ is) (s ∷ block) =
      passed (processed before i (s ∷ block)) is (output_at kinds (before.living i) (s ∷ block))

  -- the call with the machine's answer in place of its own, and the state after it
  abbrev pub answered : Channels M → Call M → Call M × Channels M
  answered before (Chain c members _) = let o = chain before c members in (Chain c members o.0, o.1)
  answered before (Unchain c _) = let o = unchain before c in (Unchain c o.0, o.1)
  answered before (Remove i _) = let o = delete kinds before i in (Remove i o.0, o.1)
  answered before (Ready c _) = let o = ready before c in (Ready c o.0, o.1)
  answered before (Feed c block _) =
      let o = passed before.host (members_at before.chained c) block in (Feed c block o.0, on_host before o.1)
  answered before (OfHost call) = let o = host_answers.answered kinds before.host call in (OfHost o.0, on_host before o.1)
