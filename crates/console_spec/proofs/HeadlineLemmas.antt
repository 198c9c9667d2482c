-- The headline of calls that were made for lines, and up to a line.
use Rattle.std.proofs.Common.{◌≡◌, ℕ, ℤ, Bool, List, ◌++◌, Option, Some, refl, ap, ◌∙◌}
use Rattle.ialg.specs.Meaning.{Meaning}
use Rattle.host_map.specs.declared.parts.Sizes.{Sizes}
use Rattle.host_spec.specs.Calls as host_calls
use Rattle.channel_spec.specs.Channels.{Channels}
use Rattle.channel_spec.specs.Calls.{Call}
use Rattle.voice_script.specs.Served.{Answer, LinesAnswer, Run, held_by, order_of}
use Rattle.voice_script.specs.Widths.{Widths}
use Rattle.console_spec.specs.Samples.{octets_at}
use Rattle.console_spec.specs.Console.{console_machine, start}
use Rattle.console_spec.specs.HostRuns.{RunsOnHost}
use Rattle.console_spec.specs.Lines.{LinesMake, fed_out, samples_left}
use Rattle.console_spec.specs.Headline.{GoesOn, Headline, Refuses}
use Rattle.console_spec.proofs.BirthLemmas.{goes}
use Rattle.console_spec.proofs.HostRunLemmas.{leads_on, runs, runs_on}
use Rattle.console_spec.proofs.LineLemmas.{Leaves, all_did, and_then, did_first}

module _ {M : Type 0} (kinds : Meaning M) (named : List ℕ → Option M) (widths : Widths) (sizes : Sizes) (poison : Option ℤ) (octets : List (List ℕ)) (honest : ℕ → Bool)
    (refuses : Refuses kinds named widths) (leaves : Leaves kinds widths named honest) where
  abbrev begin : Run (Channels M)
  begin = start sizes poison octets

  headline_of : (lines : List (List ℕ)) (answer : Answer (Channels M)) (made : List (Call M)) (asked : List (host_calls.Call M))
      → LinesMake honest named lines (samples_left widths begin) made (samples_left widths answer.run) → RunsOnHost kinds begin.state made asked answer.run.state
      → host_calls.Leads kinds begin.state.host asked answer.run.state.host
      → ((c : ℕ) → held_by (Some c) (order_of answer.written) ≡ octets_at (widths.output c) (fed_out c made))
      → Headline kinds named widths sizes poison lines octets honest answer
  headline_of lines answer made asked commands ran leads outputs = record {
    calls = made;
    commands = commands;
    asked = asked;
    runs = ran;
    each = λ i kind g p later lawful born. goes kinds begin.state.host answer.run.state.host asked i g kind p later leads lawful born;
    outputs = outputs;
    refuses = refuses;
  }

  pub headline : (lines : List (List ℕ)) (answer : Answer (Channels M)) → LinesAnswer (console_machine kinds named widths) honest begin lines answer
      → Headline kinds named widths sizes poison lines octets honest answer
  headline lines answer a =
      let did = all_did kinds widths named honest leaves lines begin answer a in
      let ran = runs kinds did.0 begin.state answer.run.state did.2.lead in
      headline_of lines answer did.0 ran.0 did.1 ran.1 ran.2 did.2.outputs

  pub goes_on : (first more : List (List ℕ)) (answer : Answer (Channels M)) → LinesAnswer (console_machine kinds named widths) honest begin (first ++ more) answer
      → GoesOn kinds named widths sizes poison first more octets honest answer
  unfolding headline_of
  goes_on first more answer a =
      let did = did_first kinds widths named honest leaves first more begin answer a in
      let so_far = did.so_far in
      let both = and_then kinds widths begin so_far.run answer.run so_far.written did.later did.made did.made_later did.serves did.serves_later in
      let ran = runs kinds did.made begin.state so_far.run.state did.serves.lead in
      let ran_later = runs kinds did.made_later so_far.run.state answer.run.state did.serves_later.lead in
      record {
        so_far = so_far;
        served = did.served;
        says = headline_of first so_far did.made ran.0 did.commands ran.1 ran.2 did.serves.outputs;
        all = headline_of (first ++ more) answer (did.made ++ did.made_later) (ran.0 ++ ran_later.0) did.all_commands
            (runs_on kinds did.made did.made_later ran.0 ran_later.0 begin.state so_far.run.state answer.run.state ran.1 ran_later.1)
            (leads_on kinds ran.0 ran_later.0 begin.state.host so_far.run.state.host answer.run.state.host ran.2 ran_later.2)
            (λ c. ap (λ w. held_by (Some c) (order_of w)) did.written ∙ both.outputs c);
        later_calls = did.made_later;
        calls = refl;
        later_asked = ran_later.0;
        asked = refl;
        later = did.later;
        written = did.written;
      }
