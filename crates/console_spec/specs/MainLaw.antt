-- What the main theorem says of runs of the machine.
use Rattle.std.specs.Prelude.{◌≡◌, ◌++◌, ℕ, ℤ, Bool, [], IsTrue, List, Option}
use Rattle.ialg.specs.Meaning.{Meaning}
use Rattle.host_map.specs.declared.parts.Sizes.{Sizes}
use Rattle.host_spec.specs.Calls.{Call}
use Rattle.host_spec.specs.Runs.{history_of_run, outputs_in, statuses_in}
use Rattle.channel_spec.specs.Channels.{Channels}
use Rattle.voice_script.specs.Served.{Answer, LinesAnswer}
use Rattle.voice_script.specs.Widths.{Widths}
use Rattle.console_spec.specs.Console.{console_machine, start}
use Rattle.console_spec.specs.Births.{Born}
use Rattle.console_spec.specs.Headline.{GoesOn, Headline}

-- the headline holds of each answer to a list of lines
abbrev pub RunsHaveTheHeadline : Type 0 → Type 0
RunsHaveTheHeadline M =
    (kinds : Meaning M) (named : List ℕ → Option M) (widths : Widths) (sizes : Sizes) (poison : Option ℤ) (lines inputs : List (List ℕ)) (honest : ℕ → Bool) (answer : Answer (Channels M))
    → LinesAnswer (console_machine kinds named widths) honest (start sizes poison inputs) lines answer
    → Headline kinds named widths sizes poison lines inputs honest answer

-- it holds of the first lines by themselves, and goes on to the others
abbrev pub FirstLinesHaveTheHeadline : Type 0 → Type 0
FirstLinesHaveTheHeadline M =
    (kinds : Meaning M) (named : List ℕ → Option M) (widths : Widths) (sizes : Sizes) (poison : Option ℤ) (first more inputs : List (List ℕ)) (honest : ℕ → Bool) (answer : Answer (Channels M))
    → LinesAnswer (console_machine kinds named widths) honest (start sizes poison inputs) (first ++ more) answer
    → GoesOn kinds named widths sizes poison first more inputs honest answer

-- in two runs lawful instances of one kind and the same parameters, given the same since their creation, give and answer the same
abbrev pub InstancesOfTwoRunsAgree : {M : Type 0} → Meaning M → (List ℕ → Option M) → Type 0
InstancesOfTwoRunsAgree {M} kinds named =
    (widths other_widths : Widths) (sizes other_sizes : Sizes) (poison other_poison : Option ℤ)
    (lines inputs other_lines other_inputs : List (List ℕ)) (honest other_honest : ℕ → Bool) (answer other : Answer (Channels M))
    (one : Headline kinds named widths sizes poison lines inputs honest answer)
    (two : Headline kinds named other_widths other_sizes other_poison other_lines other_inputs other_honest other)
    (i j g h : ℕ) (kind : M) (p : List ℤ) (later since : List (Call M))
    → IsTrue (kinds.lawful kind p poison) → Born i kind g p one.asked later
    → IsTrue (kinds.lawful kind p other_poison) → Born j kind h p two.asked since
    → history_of_run i [] later ≡ history_of_run j [] since
    → (outputs_in i later ≡ outputs_in j since) × (statuses_in i later ≡ statuses_in j since)

-- of whatever kinds and names
abbrev pub InstancesAgree : Type 0 → Type 0
InstancesAgree M = (kinds : Meaning M) (named : List ℕ → Option M) → InstancesOfTwoRunsAgree kinds named
