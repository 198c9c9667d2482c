-- Worked rows: what an instance was given, gave and answered in a run of calls.
use Rattle.std.specs.Prelude.{◌≡◌, pos, List, [], ◌∷◌, Ok, Err}
use Rattle.mem_rec.specs.declared.Space.TheVariants.{Daram}
use Rattle.ialg.specs.declared.refusal.Refusal.TheVariants.{Command}
use Rattle.ialg.specs.History as history
use Rattle.ialg.specs.History.{Sample, Set, Reset, Get}
use Rattle.ialg.specs.Meaning.{Done, Words}
use Rattle.voice_set.specs.declared.voice.Voice.{Voice}
use Rattle.host_spec.specs.Calls.{Call}
use Rattle.host_spec.specs.Calls.Call.{Control, Process, Compact}
use Rattle.host_spec.specs.Runs.{history_of_run, outputs_in, statuses_in}

-- two instances are called by turns. One control is refused, one block is empty, and a block of memory moves
abbrev pub by_turns : List (Call Voice)
by_turns =
    Process 0 (pos 2 ∷ pos 3 ∷ []) (pos 7 ∷ []) ∷ Process 1 (pos 5 ∷ []) (pos 6 ∷ []) ∷ Control 0 Get (Ok (Words (pos 1 ∷ [])))
    ∷ Control 0 (Set (pos 9 ∷ [])) (Err Command) ∷ Control 1 Reset (Ok Done) ∷ Compact Daram 1 ∷ Process 0 [] []
    ∷ Process 0 (pos 4 ∷ []) (pos 8 ∷ pos 9 ∷ []) ∷ []

pub record RunRows : Type 0 where
  -- the newest entry first, and of granted controls alone
  pub given : history_of_run 0 [] by_turns ≡ Sample (pos 4) ∷ history.Control Get ∷ Sample (pos 3) ∷ Sample (pos 2) ∷ []
  pub outputs : outputs_in 0 by_turns ≡ pos 7 ∷ pos 8 ∷ pos 9 ∷ []
  pub statuses : statuses_in 0 by_turns ≡ Words (pos 1 ∷ []) ∷ []
  pub other_given : history_of_run 1 [] by_turns ≡ history.Control Reset ∷ Sample (pos 5) ∷ []
  pub other_outputs : outputs_in 1 by_turns ≡ pos 6 ∷ []
  pub other_statuses : statuses_in 1 by_turns ≡ Done ∷ []
  -- a history goes on from what was given before
  pub later : history_of_run 1 (Sample (pos 3) ∷ []) by_turns ≡ history.Control Reset ∷ Sample (pos 5) ∷ Sample (pos 3) ∷ []
