-- What is told of answers, as private clauses say it.
use Rattle.std.specs.Prelude.{ℕ, ℤ, List, Result, Ok, Err, if◌then◌else◌}
use Rattle.ialg.specs.declared.refusal.Refusal.{Refusal}
use Rattle.ialg.specs.declared.refusal.Refusal.TheVariants.{Command}
use Rattle.ialg.specs.History.{History, Ctl}
use Rattle.ialg.specs.Meaning.{Meaning, Status, status_of}
use Rattle.voice_script.specs.Replies.{Reply, No}
use Rattle.voice_script.specs.Served.{Asked, Feed, Tell}
use Rattle.voice_script.specs.declared.width.Width.{Width}
use Rattle.voice_script.specs.Widths.{octet_count}
use Rattle.console_spec.specs.Console.{by_answer}

-- why a call was refused, or what it answered
abbrev pub told_by : {A : Type 0} → (A → Reply) → Result A Refusal → Reply
told_by reply answer = by_answer reply No answer

-- a channel that is ready asks for its samples' octets, by the width of its input
abbrev pub feed_asked : Width → ℕ → ℕ → Result (Unit {0}) Refusal → Asked
feed_asked width c n answer = by_answer (λ _. Feed c (octet_count width n)) (λ refusal. Tell (No refusal)) answer

-- what an instance answers to a control. Whether it is granted depends on the kind, the parameters and the control alone
abbrev pub answer_of : {M : Type 0} → Meaning M → M → List ℤ → History → Ctl → Result Status Refusal
answer_of kinds kind p h c = if kinds.accepts kind p c then Ok (status_of kinds kind p h c) else Err Command
