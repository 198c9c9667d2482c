-- What has come, and what was served, at the start of an iteration.
use Rattle.std.proofs.Common.{◌≡◌, ℕ, Bool, ◌+◌, List, length, map}
use Rattle.std.specs.List.{All, flat_map}
use Rattle.octet_ports.specs.Ports.{Source, Sink, Gives}
use Rattle.octet_ports.specs.Lines.{ended, IsNoFeed}
use Rattle.voice_script.specs.Served.{Machine, Run, Answer, order_of, refusals, LinesAnswer}
use Rattle.script_server.specs.Runs.{Writes}
use Rattle.script_server.specs.LineRuns.{AreHonest}
use Rattle.script_server.specs.declared.limits.TheConstants.{SCRIPT_OCTETS}

-- so many octets of the script may still come
pub record Consumes (left : ℕ) (script new_script : Source) : Type 0 where
  pub octets : List ℕ
  pub gives : Gives octets script new_script
  pub used : SCRIPT_OCTETS ≡ length octets + left

-- these lines were served whole, and so many octets may still come
pub record ServedSoFar {S : Type 0} (machine : Machine S) (keeps : S → Type 0) (honest : ℕ → Bool) (start : Run S) (refused left : ℕ) (script new_script : Source)
    (sources : List Source) (outputs new_outputs : List Sink) (replies new_replies : Sink) : Type 0 where
  pub lines : List (List ℕ)
  pub no_feeds : All (λ line. All IsNoFeed line) lines
  pub gives : Gives (flat_map ended lines) script new_script
  pub used : SCRIPT_OCTETS ≡ length (flat_map ended lines) + left
  pub answer : Answer S
  pub is_answer : LinesAnswer machine honest start lines answer
  pub kept : keeps answer.run.state
  pub still : AreHonest honest sources
  pub inputs : answer.run.inputs ≡ map (λ s. s.coming) sources
  pub writes : Writes (order_of answer.written) outputs new_outputs replies new_replies
  pub counted : refusals answer.written ≡ refused
