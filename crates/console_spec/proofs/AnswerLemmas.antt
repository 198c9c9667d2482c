-- A console of lawful kinds does no more than the computed one.
use Rattle.std.proofs.Common.{◌≡◌, ℕ, ℤ, Bool, true, List, [], length, Option, Some, None, Result, Ok, Err, refl, ap, ◌∙◌}
use Rattle.ialg.specs.declared.refusal.Refusal.{Refusal}
use Rattle.ialg.specs.Meaning.{Meaning}
use Rattle.host_map.specs.declared.parts.Sizes.{Sizes}
use Rattle.host_spec.specs.Calls as host_calls
use Rattle.host_spec.specs.Answers.{AreLawful}
use Rattle.channel_spec.specs.Channels.{Channels}
use Rattle.channel_spec.specs.Calls as calls
use Rattle.channel_spec.specs.Calls.{Call, Does, OfHost}
use Rattle.channel_spec.specs.Answers.{answered}
use Rattle.channel_spec.specs.Laws.{with_poison}
use Rattle.channel_spec.proofs.AnswerLemmas.{computed}
use Rattle.channel_spec.proofs.PoisonLemmas.{channels_same}
use Rattle.voice_script.specs.Script as script
use Rattle.voice_script.specs.Script.{Command, parsed}
use Rattle.voice_script.specs.Replies as replies
use Rattle.voice_script.specs.Served as asks
use Rattle.voice_script.specs.Served.{Asked, Answer, LinesAnswer, Tell}
use Rattle.voice_script.specs.Computed.{IsComputed}
use Rattle.voice_script.specs.declared.width.Width.{Width}
use Rattle.voice_script.specs.declared.width.Width.TheVariants.{Word}
use Rattle.voice_script.specs.Widths.{Widths}
use Rattle.voice_script.proofs.ComputedLemmas.{lines_are}
use Rattle.console_spec.specs.Samples.{octets_at, samples_at}
use Rattle.console_spec.specs.Console.{Calls, CommandAsks, LineAsks, call_of, console_machine, start, status_reply}
use Rattle.console_spec.specs.Told.{feed_asked, told_by}
use Rattle.console_spec.specs.Answers.{command_asks, line_asks, computed_console, lines_served}

module _ {M : Type 0} where
  -- what a line asks by the call's answer. A feed asks for so many samples, by the width of its input
  abbrev asks_by : Width → ℕ → Call M → Asked
  asks_by width n (calls.Chain c is answer) = Tell (told_by (λ _. replies.Done) answer)
  asks_by width n (calls.Unchain c answer) = Tell (told_by (λ _. replies.Done) answer)
  asks_by width n (calls.Remove i answer) = Tell (told_by (λ _. replies.Done) answer)
  asks_by width n (calls.Ready c answer) = feed_asked width c n answer
  asks_by width n (OfHost (host_calls.Create i kind g p answer)) = Tell (told_by (λ _. replies.Done) answer)
  asks_by width n (OfHost (host_calls.Control i c answer)) = Tell (told_by status_reply answer)
  asks_by width n (OfHost (host_calls.Compact space answer)) = Tell (replies.Count answer)
  asks_by width n (OfHost (host_calls.Step space answer)) = Tell (replies.Flag answer)
  asks_by width n (OfHost (host_calls.Release g answer)) = Tell (told_by replies.Flag answer)
  asks_by width n (OfHost (host_calls.Map space answer)) = Tell (replies.Map answer)
  asks_by width n (OfHost (host_calls.Stat g answer)) = Tell (told_by (λ a. replies.Stat a.active a.count) answer)
  asks_by width n _ = asks.Nothing

  -- what a channel gives in the call
  abbrev output_by : Call M → List ℤ
  output_by (calls.Feed c block out) = out
  output_by _ = []

module _ {M : Type 0} (kinds : Meaning M) (poison : Option ℤ) (lawful : AreLawful kinds poison) where
  module _ (before after : Channels M) where
    -- the call is computed, and so without the poison word
    by_call : (call : Call M) → Does kinds (with_poison poison before) call after
        → ◌≡◌ {A = Call M × Channels M} (call, after) ((answered kinds before call).0, with_poison poison (answered kinds before call).1)
    by_call call does = computed kinds (with_poison poison before) after lawful call does ∙ channels_same poison before kinds call

    -- the line asked this, and the channels after it are these with the poison word
    abbrev Did : Asked → Asked × Channels M → Type 0
    Did asked next = (asked ≡ next.0) × (after ≡ with_poison poison next.1)

    did : {A : Type 0} (width : Width) (n : ℕ) (call : A → Call M) (asked_by : A → Asked) (asked : Asked) (c : Calls kinds call asked_by (with_poison poison before) asked after)
        → asked_by c.0 ≡ asks_by width n (call c.0)
        → Did asked (asks_by width n (answered kinds before (call c.0)).0, (answered kinds before (call c.0)).1)
    did width n call asked_by asked c same =
        let e = by_call (call c.0) c.1 in
        (c.2 ∙ same ∙ ap (λ o. asks_by width n o.0) e, ap (λ o. o.1) e)

    -- the answer is told
    told_did : (command : Command M) (asked : Asked) (c : Calls kinds (call_of command).call (λ a. Tell ((call_of command).told a)) (with_poison poison before) asked after)
        → Tell ((call_of command).told c.0) ≡ asks_by Word 0 ((call_of command).call c.0)
        → Did asked (asks_by Word 0 (answered kinds before ((call_of command).call c.0)).0, (answered kinds before ((call_of command).call c.0)).1)
    told_did command asked c same = did Word 0 (call_of command).call (λ a. Tell ((call_of command).told a)) asked c same

    command_did : (widths : Widths) (command : Command M) (asked : Asked) → CommandAsks kinds widths command (with_poison poison before) asked after → Did asked (command_asks kinds widths before command)
    command_did widths (script.Create i kind g words) asked c = told_did (script.Create i kind g words) asked c refl
    command_did widths (script.Control i control) asked c = told_did (script.Control i control) asked c refl
    command_did widths (script.Delete i) asked c = told_did (script.Delete i) asked c refl
    command_did widths (script.Chain c is) asked d = told_did (script.Chain c is) asked d refl
    command_did widths (script.Unchain c) asked d = told_did (script.Unchain c) asked d refl
    command_did widths (script.Feed c n) asked d = did (widths.input c) n (λ a. calls.Ready c a) (feed_asked (widths.input c) c n) asked d refl
    command_did widths (script.Compact space) asked c = told_did (script.Compact space) asked c refl
    command_did widths (script.Step space) asked c = told_did (script.Step space) asked c refl
    command_did widths (script.Release g) asked c = told_did (script.Release g) asked c refl
    command_did widths (script.Map space) asked c = told_did (script.Map space) asked c refl
    command_did widths (script.Stat g) asked c = told_did (script.Stat g) asked c refl

    line_did : (widths : Widths) (line : Result (Option (Command M)) Refusal) (asked : Asked) → LineAsks kinds widths line (with_poison poison before) asked after → Did asked (line_asks kinds widths before line)
    line_did widths (Ok (Some command)) asked a = command_did widths command asked a
    line_did widths (Ok None) asked a = a
    line_did widths (Err refusal) asked a = a

  pub is_computed : (named : List ℕ → Option M) (widths : Widths) → IsComputed (console_machine kinds named widths) (computed_console kinds named widths) (with_poison poison)
  is_computed named widths = record {
    asks = λ before line asked after a. line_did before after widths (parsed named line) asked a;
    gives = λ before c octets output samples after a.
        let e = by_call before after (calls.Feed c (samples_at (widths.input c) octets) a.0) a.1 in
        let out = ap (λ o. output_by o.0) e in
        (a.2 ∙ ap (octets_at (widths.output c)) out, a.3 ∙ ap (λ xs. length xs) out, ap (λ o. o.1) e);
  }

  pub lines_same : (named : List ℕ → Option M) (widths : Widths) (sizes : Sizes) (lines inputs : List (List ℕ)) (honest : ℕ → Bool) (answer : Answer (Channels M))
      → ((channel : ℕ) → honest channel ≡ true) → LinesAnswer (console_machine kinds named widths) honest (start sizes poison inputs) lines answer
      → (answer.written ≡ (lines_served kinds named widths sizes lines inputs).written)
      × (answer.run.inputs ≡ (lines_served kinds named widths sizes lines inputs).run.inputs)
  lines_same named widths sizes lines inputs honest answer all a =
      let e = lines_are (console_machine kinds named widths) (computed_console kinds named widths) (with_poison poison) (is_computed named widths) honest all lines (start sizes None inputs) answer a in
      (ap (λ o. o.written) e, ap (λ o. o.run.inputs) e)
