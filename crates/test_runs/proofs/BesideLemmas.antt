-- The row in which one input alone is honest, line by line.
use Rattle.std.proofs.Common.{◌≡◌, ℕ, ℤ, pos, Bool, true, List, [], ◌∷◌, ◌++◌, length, Option, Some, Result, Ok, Err, IfOk, inl, inr, refl, sym, ap, ◌∙◌, subst, arith, append-nil}
use Rattle.host_map.specs.Activity.{with_at}
use Rattle.std.specs.Prelude.{◌==◌, codes, slice_index_or, if◌then◌else◌}
use Rattle.std.proofs.lemmas.Bool.{false≢true}
use Rattle.relocate.proofs.RangeTests.{either}
use Rattle.std.proofs.lemmas.Bool.Decides.{eqb_tells}
use Rattle.ialg.specs.History.{Sample}
use Rattle.ialg.specs.Meaning.{outputs_of}
use Rattle.octet_ports.specs.Ports.{Holds as HoldsMore}
use Rattle.host_spec.specs.Steps.{newborn}
use Rattle.std.proofs.lemmas.List.Elements.{All-from_recursion}
use Rattle.host_spec.specs.Runs.{AllSpare, Spares, history_of_run, outputs_in}
use Rattle.host_spec.specs.Calls as host_calls
use Rattle.host_spec.specs.Answers.{AreLawful}
use Rattle.channel_spec.specs.Channels.{Channels}
use Rattle.channel_spec.specs.Calls as calls
use Rattle.channel_spec.specs.Calls.{Call, OfHost}
use Rattle.voice_set.specs.declared.voice.Voice.{Voice}
use Rattle.voice_set.specs.declared.voice.Voice.TheVariants.{Fir}
use Rattle.voice_set.specs.Voices.{voice_meaning, voice_named}
use Rattle.voice_script.specs.Script.{lines_of}
use Rattle.voice_script.specs.Served.{Answer}
use Rattle.console_spec.specs.Console.{start}
use Rattle.console_spec.specs.Samples.{octets_of}
use Rattle.script_server.specs.Runs.{Devices, honest_at, no_sink}
use Rattle.console_spec.specs.HostRuns.{RunsOnHost}
use Rattle.console_spec.specs.Births.{Born}
use Rattle.console_spec.specs.Headline.{Headline}
use Rattle.console_spec.specs.Lines.{LinesMake, fed_out, samples_left}
use Rattle.dsp_console.specs.declared.serving.Summary.{Summary}
use Rattle.dsp_console.specs.declared.serving.Fault.{Fault}
use Rattle.dsp_console.specs.Headline.{RunHeadline}
use Rattle.test_runs.specs.ConsoleRows.{words}
use Rattle.test_runs.specs.Row.{mean, row_sizes}
use Rattle.test_runs.specs.Beside.{BesideGave, CanRunBeside, IsGivenAny, RanBeside, beside_input, beside_script, life_beside}
use Rattle.test_runs.proofs.RowLemmas.{FirGives, group_block, record_block, table}
use Rattle.test_runs.proofs.Steps.{Holds, ended, fed, fed_any, fed_with, told}

-- the calls of the row, with what each feed of channel 0 gave
pub record Made (made : List (Call Voice)) (asked : List (host_calls.Call Voice)) : Type 0 where
  pub one : List ℤ
  pub between : List (host_calls.Call Voice)
  pub three : List ℤ
  pub any : IsGivenAny between
  pub asked_is : asked ≡ host_calls.Create 0 Fir 0 mean (Ok tt) ∷ life_beside one between three
  pub given : fed_out 0 made ≡ one ++ (three ++ [])

abbrev beside_lines : List (List ℕ)
beside_lines =
    codes "create 0 fir 0 16384 16384" ∷ codes " create 1 fir 0 16384 16384" ∷ codes " chain 0 0" ∷ codes " chain 1 1"
    ∷ codes " feed 0 2" ∷ codes " feed 1 1" ∷ codes " feed 0 1" ∷ []

pub are_lines : lines_of beside_script ≡ beside_lines
are_lines = refl

-- input 0 is followed
abbrev is_first : ℕ → Bool
is_first c = c == 0

pub first_honest : (honest : ℕ → Bool) → honest 0 ≡ true → (c : ℕ) → is_first c ≡ true → honest c ≡ true
first_honest honest h c is = either (eqb_tells c 0) (λ same. ap honest same.1 ∙ h) (λ apart. absurd (false≢true (sym apart.0 ∙ is)))

module _ (poison : Option ℤ) (lawful : AreLawful voice_meaning poison) (other : List ℕ) (honest : ℕ → Bool) (h : honest 0 ≡ true) where
  abbrev s0 : Channels Voice
  s0 = (start {M = Voice} row_sizes poison (beside_input ∷ other ∷ [])).state

  abbrev s1 : Channels Voice
  s1 = record s0 {
    host = record s0.host {
      living = with_at s0.host.living 0 (Some (newborn Fir 0 mean table));
      map = record { daram = group_block 0 0 ∷ []; saram = record_block 0 1 0 ∷ []; external = record_block 0 0 0 ∷ [] };
    };
  }

  abbrev s2 : Channels Voice
  s2 = record s1 {
    host = record s1.host {
      living = with_at s1.host.living 1 (Some (newborn Fir 0 mean table));
      map = record {
        daram = group_block 0 0 ∷ [];
        saram = record_block 0 1 0 ∷ record_block 1 1 4 ∷ [];
        external = record_block 0 0 0 ∷ record_block 1 0 4 ∷ [];
      };
    };
  }

  abbrev s3 : Channels Voice
  s3 = record s2 { chained = (0 ∷ []) ∷ [] ∷ [] }

  abbrev s4 : Channels Voice
  s4 = record s2 { chained = (0 ∷ []) ∷ (1 ∷ []) ∷ [] }

  abbrev left_0 : ℕ → List ℤ
  left_0 = samples_left words (start {M = Voice} row_sizes poison (beside_input ∷ other ∷ []))

  abbrev are : (c : ℕ) → is_first c ≡ true → honest c ≡ true
  are = first_honest honest h

  abbrev s5 : Channels Voice
  s5 = fed_with voice_meaning voice_named honest is_first are s4 0 0 refl refl (pos 2 ∷ pos 4 ∷ [])

  abbrev s6 : ℤ → Channels Voice
  s6 x = fed_with voice_meaning voice_named honest is_first are s5 1 1 refl refl (x ∷ [])

  abbrev left_1 : ℕ → List ℤ
  left_1 d = if d == 0 then pos 6 ∷ [] else left_0 d

  pub beside_made : Holds voice_meaning voice_named honest is_first are beside_lines left_0 s0 Made
  beside_made =
      told voice_meaning voice_named honest is_first are (λ a. OfHost (host_calls.Create 0 Fir 0 mean a)) (Ok tt) s1 (host_calls.Create 0 Fir 0 mean (Ok tt) ∷ [])
      lawful refl (λ left after made m. m) (λ a. refl) (λ asked e. e)
      (told voice_meaning voice_named honest is_first are (λ a. OfHost (host_calls.Create 1 Fir 0 mean a)) (Ok tt) s2 (host_calls.Create 1 Fir 0 mean (Ok tt) ∷ [])
      lawful refl (λ left after made m. m) (λ a. refl) (λ asked e. e)
      (told voice_meaning voice_named honest is_first are (λ a. calls.Chain 0 (0 ∷ []) a) (Ok tt) s3 [] lawful refl (λ left after made m. m) (λ a. refl) (λ asked e. e)
      (told voice_meaning voice_named honest is_first are (λ a. calls.Chain 1 (1 ∷ []) a) (Ok tt) s4 [] lawful refl (λ left after made m. m) (λ a. refl) (λ asked e. e)
      (fed voice_meaning voice_named honest is_first are s4 0 0 refl refl left_0 2 (pos 2) (pos 4 ∷ []) (pos 6 ∷ []) refl refl refl refl (λ left after made m. m) (λ one.
      fed_any voice_meaning voice_named honest is_first are s5 1 1 refl refl left_1 refl refl (λ left after made m. m)
      (fed voice_meaning voice_named honest is_first are s5 0 0 refl refl left_1 1 (pos 6) [] [] refl refl refl refl (λ left after made m. m) (λ three.
      ended voice_meaning voice_named honest is_first are
      (record { one = one; between = []; three = three; any = inl refl; asked_is = refl; given = refl })))
      (λ x two.
      fed voice_meaning voice_named honest is_first are (s6 x) 0 0 refl refl left_1 1 (pos 6) [] [] refl refl refl refl (λ left after made m. m) (λ three.
      ended voice_meaning voice_named honest is_first are
      (record { one = one; between = host_calls.Process 1 (x ∷ []) two ∷ []; three = three; any = inr (x, two, refl); asked_is = refl; given = refl }))))))))

  pub first_gave : FirGives poison lawful → {lines inputs : List (List ℕ)} {answer : Answer (Channels Voice)} (says : Headline voice_meaning voice_named words row_sizes poison lines inputs honest answer)
      → lines ≡ beside_lines → inputs ≡ beside_input ∷ other ∷ [] → BesideGave says
  first_gave fir {inputs = inputs} {answer = answer} says same same_inputs =
      let made : Made says.calls says.asked =
      beside_made.always (samples_left words (start {M = Voice} row_sizes poison inputs)) (samples_left words answer.run) says.calls says.asked answer.run.state
      (λ c follows. ap (λ xs. samples_left words (start {M = Voice} row_sizes poison xs) c) same_inputs)
      (subst (λ ls. LinesMake honest voice_named ls (samples_left words (start {M = Voice} row_sizes poison inputs)) says.calls (samples_left words answer.run)) same says.commands)
      (subst (λ xs. RunsOnHost voice_meaning (start {M = Voice} row_sizes poison xs).state says.calls says.asked answer.run.state) same_inputs says.runs) in
      by_any made.one made.between made.three made.any made.asked_is made.given
    where
      gave_by : (one : List ℤ) (between : List (host_calls.Call Voice)) (three : List ℤ) → IsGivenAny between → AllSpare 0 (life_beside one between three)
          → history_of_run 0 [] (life_beside one between three) ≡ Sample (pos 6) ∷ Sample (pos 4) ∷ Sample (pos 2) ∷ []
          → outputs_in 0 (life_beside one between three) ≡ one ++ (three ++ [])
          → says.asked ≡ host_calls.Create 0 Fir 0 mean (Ok tt) ∷ life_beside one between three → fed_out 0 says.calls ≡ one ++ (three ++ []) → BesideGave says
      gave_by one between three any spared history outs asked given =
          let born : Born 0 Fir 0 mean says.asked (life_beside one between three) =
          record { earlier = []; rest = []; created = asked ∙ ap (λ calls. host_calls.Create 0 Fir 0 mean (Ok tt) ∷ calls) (sym (append-nil (life_beside one between three))); spared = spared } in
          let gave : outputs_in 0 (life_beside one between three) ≡ pos 1 ∷ pos 3 ∷ pos 5 ∷ [] =
          (says.each 0 Fir 0 mean (life_beside one between three) (lawful Fir mean) born).gives.outputs
          ∙ ap (outputs_of voice_meaning Fir mean) history ∙ fir mean (Sample (pos 6) ∷ Sample (pos 4) ∷ Sample (pos 2) ∷ []) in
          record {
            one = one;
            between = between;
            three = three;
            any = any;
            born = born;
            given = history;
            gave = gave;
            written = says.outputs 0 ∙ ap octets_of (given ∙ sym outs ∙ gave);
          }

      by_any : (one : List ℤ) (between : List (host_calls.Call Voice)) (three : List ℤ) → IsGivenAny between
          → says.asked ≡ host_calls.Create 0 Fir 0 mean (Ok tt) ∷ life_beside one between three → fed_out 0 says.calls ≡ one ++ (three ++ []) → BesideGave says
      by_any one between three (inl none) asked given =
          gave_by one [] three (inl refl) (All-from_recursion (Spares 0) (life_beside one [] three) (tt, (tt, (tt, tt)))) refl refl (asked ∙ ap (λ b. host_calls.Create 0 Fir 0 mean (Ok tt) ∷ life_beside one b three) none) given
      by_any one between three (inr some) asked given =
          gave_by one (host_calls.Process 1 (some.0 ∷ []) some.1 ∷ []) three (inr (some.0, some.1, refl))
          (All-from_recursion (Spares 0) (life_beside one (host_calls.Process 1 (some.0 ∷ []) some.1 ∷ []) three) (tt, (tt, (tt, (tt, tt))))) refl refl
          (asked ∙ ap (λ b. host_calls.Create 0 Fir 0 mean (Ok tt) ∷ life_beside one b three) some.2) given

-- what `fir` gives
module _ (poison : Option ℤ) (lawful : AreLawful voice_meaning poison) where
  pub ran_beside : FirGives poison lawful → (result : Result Summary Fault) (old new : Devices) → CanRunBeside old → length old.outputs ≡ 2
      → IfOk result (λ summary. RunHeadline voice_meaning voice_named words row_sizes poison summary.refused old new)
      → IfOk result (λ summary. RanBeside poison summary.refused old new)
  ran_beside fir (Ok summary) old new can two run =
      let first = first_gave poison lawful can.other (honest_at old.inputs) can.honest fir run.says (ap lines_of can.script ∙ are_lines) can.inputs in
      record {
        run = run;
        first = first;
        output = subst (λ octets. HoldsMore octets (slice_index_or old.outputs 0 no_sink) (slice_index_or new.outputs 0 no_sink))
            first.written (run.serves.writes.output 0 (omega (arith, two)));
      }
  ran_beside fir (Err fault) old new can two run = tt
