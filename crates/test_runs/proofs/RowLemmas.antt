-- The worked row, line by line.
use Rattle.std.proofs.Common.{◌≡◌, ℕ, ℤ, pos, Bool, true, List, [], ◌∷◌, ◌++◌, length, Option, Some, Result, Ok, Err, IfOk, refl, ap, ◌∙◌, subst, arith}
use Rattle.host_map.specs.Activity.{with_at}
use Rattle.std.specs.Prelude.{codes, slice_index_or, unwrap_or}
use Rattle.alg_fir.specs.Equation.{fir_output}
use Rattle.ialg.specs.History.{History, Sample, outputs_by}
use Rattle.ialg.specs.Meaning.{outputs_of}
use Rattle.octet_ports.specs.Ports.{Holds as HoldsMore}
use Rattle.host_spec.specs.Steps.{processed, newborn}
use Rattle.std.proofs.lemmas.List.Elements.{All-from_recursion}
use Rattle.host_spec.specs.Runs.{Spares, outputs_in}
use Rattle.channel_spec.specs.Parts.{on_host}
use Rattle.voice_script.specs.Served.{Answer}
use Rattle.console_spec.specs.Samples.{octets_of}
use Rattle.script_server.specs.Runs.{Devices, no_sink}
use Rattle.script_server.proofs.Honest.{all_honest}
use Rattle.console_spec.specs.HostRuns.{RunsOnHost}
use Rattle.console_spec.specs.Births.{Born}
use Rattle.console_spec.specs.Headline.{Headline}
use Rattle.dsp_console.specs.declared.serving.Summary.{Summary}
use Rattle.dsp_console.specs.declared.serving.Fault.{Fault}
use Rattle.dsp_console.specs.Headline.{RunHeadline}
use Rattle.mem_rec.specs.declared.Space.TheVariants.{Daram}
use Rattle.mem_rec.specs.declared.MemRec.{MemRec}
use Rattle.host_map.specs.declared.placed.Owner.TheVariants.{Record, Scratch}
use Rattle.host_map.specs.declared.placed.Placed.{Placed}
use Rattle.host_spec.specs.Calls as host_calls
use Rattle.host_spec.specs.Answers.{AreLawful}
use Rattle.channel_spec.specs.Channels.{Channels}
use Rattle.channel_spec.specs.Calls as calls
use Rattle.channel_spec.specs.Calls.{Call, OfHost}
use Rattle.channel_spec.specs.Answers.{answered}
use Rattle.voice_set.specs.declared.voice.Voice.{Voice}
use Rattle.voice_set.specs.declared.voice.Voice.TheVariants.{Fir}
use Rattle.voice_set.specs.Voices.{voice_meaning, voice_named}
use Rattle.voice_script.specs.Script.{lines_of}
use Rattle.console_spec.specs.Console.{start}
use Rattle.test_runs.specs.ConsoleRows.{words}
use Rattle.console_spec.specs.Lines.{LinesMake, fed_out, samples_left}
use Rattle.test_runs.specs.Row.{CanRunRow, FirstGave, RowGave, life, mean, row_inputs, row_script, row_sizes}
use Rattle.test_runs.proofs.Steps.{Holds, ended, fed, told}

-- the calls of the row, with what each feed gave
pub record Made (made : List (Call Voice)) (asked : List (host_calls.Call Voice)) : Type 0 where
  pub one : List ℤ
  pub two : List ℤ
  pub three : List ℤ
  pub asked_is : asked ≡ host_calls.Create 2 Fir 1 mean (Ok tt) ∷ host_calls.Create 0 Fir 0 mean (Ok tt) ∷ (life one two three ++ host_calls.Delete 0 (Ok tt) ∷ [])
  pub given : fed_out 0 made ≡ one ++ (three ++ [])

-- the lines of the row
abbrev row_lines : List (List ℕ)
row_lines =
    codes "create 2 fir 1 16384 16384" ∷ codes " create 0 fir 0 16384 16384" ∷ codes " create 1 fir 0 16384 16384" ∷ codes " chain 0 0" ∷ codes " chain 1 1"
    ∷ codes " feed 0 2" ∷ codes " feed 1 1" ∷ codes " delete 2" ∷ codes " compact daram" ∷ codes " feed 0 1" ∷ codes " unchain 0" ∷ codes " delete 0" ∷ []

pub are_lines : lines_of row_script ≡ row_lines
are_lines = refl

abbrev pub table : List MemRec
table = unwrap_or (voice_meaning.table Fir mean) []

abbrev pub group_block : ℕ → ℕ → Placed
group_block g place = record { owner = Scratch g; place = place; size = 1028; align = 16 }

abbrev pub record_block : ℕ → ℕ → ℕ → Placed
record_block i k place = record { owner = Record i k; place = place; size = 4; align = 4 }

module _ (poison : Option ℤ) (lawful : AreLawful voice_meaning poison) where
  abbrev s0 : Channels Voice
  s0 = (start {M = Voice} row_sizes poison row_inputs).state

  abbrev s1 : Channels Voice
  s1 = record s0 {
    host = record s0.host {
      living = with_at s0.host.living 2 (Some (newborn Fir 1 mean table));
      map = record { daram = group_block 1 0 ∷ []; saram = record_block 2 1 0 ∷ []; external = record_block 2 0 0 ∷ [] };
    };
  }

  abbrev s2 : Channels Voice
  s2 = record s1 {
    host = record s1.host {
      living = with_at s1.host.living 0 (Some (newborn Fir 0 mean table));
      map = record {
        daram = group_block 1 0 ∷ group_block 0 1040 ∷ [];
        saram = record_block 2 1 0 ∷ record_block 0 1 4 ∷ [];
        external = record_block 2 0 0 ∷ record_block 0 0 4 ∷ [];
      };
    };
  }

  abbrev s3 : Channels Voice
  s3 = record s2 {
    host = record s2.host {
      living = with_at s2.host.living 1 (Some (newborn Fir 0 mean table));
      map = record {
        daram = group_block 1 0 ∷ group_block 0 1040 ∷ [];
        saram = record_block 2 1 0 ∷ record_block 0 1 4 ∷ record_block 1 1 8 ∷ [];
        external = record_block 2 0 0 ∷ record_block 0 0 4 ∷ record_block 1 0 8 ∷ [];
      };
    };
  }

  abbrev s4 : Channels Voice
  s4 = record s3 { chained = (0 ∷ []) ∷ [] ∷ [] }

  abbrev s5 : Channels Voice
  s5 = record s3 { chained = (0 ∷ []) ∷ (1 ∷ []) ∷ [] }

  abbrev s6 : Channels Voice
  s6 = on_host s5 (processed s5.host 0 (pos 2 ∷ pos 4 ∷ []))

  abbrev s7 : Channels Voice
  s7 = on_host s6 (processed s6.host 1 (pos 10 ∷ []))

  abbrev s8 : Channels Voice
  s8 = (answered voice_meaning s7 (calls.Remove 2 (Ok tt))).1

  abbrev s9 : Channels Voice
  s9 = (answered voice_meaning s8 (OfHost (host_calls.Compact Daram 1))).1

  abbrev s10 : Channels Voice
  s10 = on_host s9 (processed s9.host 0 (pos 6 ∷ []))

  abbrev s11 : Channels Voice
  s11 = (answered voice_meaning s10 (calls.Unchain 0 (Ok tt))).1

  abbrev s12 : Channels Voice
  s12 = (answered voice_meaning s11 (calls.Remove 0 (Ok tt))).1

  abbrev left_0 : ℕ → List ℤ
  left_0 = samples_left words (start {M = Voice} row_sizes poison row_inputs)

  pub row_made : (honest : ℕ → Bool) (all : (c : ℕ) → honest c ≡ true) → Holds voice_meaning voice_named honest (λ c. true) (λ c follows. all c) row_lines left_0 s0 Made
  row_made honest all =
      told voice_meaning voice_named honest (λ c. true) (λ c follows. all c) (λ a. OfHost (host_calls.Create 2 Fir 1 mean a)) (Ok tt) s1 (host_calls.Create 2 Fir 1 mean (Ok tt) ∷ [])
      lawful refl (λ left after made m. m) (λ a. refl) (λ asked e. e)
      (told voice_meaning voice_named honest (λ c. true) (λ c follows. all c) (λ a. OfHost (host_calls.Create 0 Fir 0 mean a)) (Ok tt) s2 (host_calls.Create 0 Fir 0 mean (Ok tt) ∷ [])
      lawful refl (λ left after made m. m) (λ a. refl) (λ asked e. e)
      (told voice_meaning voice_named honest (λ c. true) (λ c follows. all c) (λ a. OfHost (host_calls.Create 1 Fir 0 mean a)) (Ok tt) s3 (host_calls.Create 1 Fir 0 mean (Ok tt) ∷ [])
      lawful refl (λ left after made m. m) (λ a. refl) (λ asked e. e)
      (told voice_meaning voice_named honest (λ c. true) (λ c follows. all c) (λ a. calls.Chain 0 (0 ∷ []) a) (Ok tt) s4 [] lawful refl (λ left after made m. m) (λ a. refl) (λ asked e. e)
      (told voice_meaning voice_named honest (λ c. true) (λ c follows. all c) (λ a. calls.Chain 1 (1 ∷ []) a) (Ok tt) s5 [] lawful refl (λ left after made m. m) (λ a. refl) (λ asked e. e)
      (fed voice_meaning voice_named honest (λ c. true) (λ c follows. all c) s5 0 0 refl refl _ 2 (pos 2) (pos 4 ∷ []) (pos 6 ∷ []) refl refl refl refl (λ left after made m. m) (λ one.
      fed voice_meaning voice_named honest (λ c. true) (λ c follows. all c) s6 1 1 refl refl _ 1 (pos 10) [] [] refl refl refl refl (λ left after made m. m) (λ two.
      told voice_meaning voice_named honest (λ c. true) (λ c follows. all c) (λ a. calls.Remove 2 a) (Ok tt) s8 (host_calls.Delete 2 (Ok tt) ∷ []) lawful refl (λ left after made m. m) (λ a. refl) (λ asked e. e)
      (told voice_meaning voice_named honest (λ c. true) (λ c follows. all c) (λ a. OfHost (host_calls.Compact Daram a)) 1 s9 (host_calls.Compact Daram 1 ∷ []) lawful refl (λ left after made m. m) (λ a. refl) (λ asked e. e)
      (fed voice_meaning voice_named honest (λ c. true) (λ c follows. all c) s9 0 0 refl refl _ 1 (pos 6) [] [] refl refl refl refl (λ left after made m. m) (λ three.
      told voice_meaning voice_named honest (λ c. true) (λ c follows. all c) (λ a. calls.Unchain 0 a) (Ok tt) s11 [] lawful refl (λ left after made m. m) (λ a. refl) (λ asked e. e)
      (told voice_meaning voice_named honest (λ c. true) (λ c follows. all c) (λ a. calls.Remove 0 a) (Ok tt) s12 (host_calls.Delete 0 (Ok tt) ∷ []) lawful refl (λ left after made m. m) (λ a. refl) (λ asked e. e)
      (ended voice_meaning voice_named honest (λ c. true) (λ c follows. all c) (record { one = one; two = two; three = three; asked_is = refl; given = refl })))))))))))))

  -- what `fir` gives, by its equation
  abbrev pub FirGives : Type 0
  FirGives = (p : List ℤ) (h : History) → outputs_of voice_meaning Fir p h ≡ outputs_by (λ t. fir_output p t ∷ []) h

  pub first_gave : FirGives → {lines inputs : List (List ℕ)} {honest : ℕ → Bool} {answer : Answer (Channels Voice)}
      (says : Headline voice_meaning voice_named words row_sizes poison lines inputs honest answer) → ((c : ℕ) → honest c ≡ true) → lines ≡ row_lines → inputs ≡ row_inputs → FirstGave says
  first_gave fir {inputs = inputs} {honest = honest} {answer = answer} says all same same_inputs =
      let made : Made says.calls says.asked =
      (row_made honest all).always (samples_left words (start {M = Voice} row_sizes poison inputs)) (samples_left words answer.run) says.calls says.asked answer.run.state
      (λ c follows. ap (λ xs. samples_left words (start {M = Voice} row_sizes poison xs) c) same_inputs)
      (subst (λ ls. LinesMake honest voice_named ls (samples_left words (start {M = Voice} row_sizes poison inputs)) says.calls (samples_left words answer.run)) same says.commands)
      (subst (λ xs. RunsOnHost voice_meaning (start {M = Voice} row_sizes poison xs).state says.calls says.asked answer.run.state) same_inputs says.runs) in
      let born : Born 0 Fir 0 mean says.asked (life made.one made.two made.three) = record {
        earlier = host_calls.Create 2 Fir 1 mean (Ok tt) ∷ [];
        rest = host_calls.Delete 0 (Ok tt) ∷ [];
        created = made.asked_is;
        spared = All-from_recursion (Spares 0) (life made.one made.two made.three) (tt, (tt, (tt, (λ e. omega (arith, e), (tt, (tt, tt))))));
      } in
      let gave : outputs_in 0 (life made.one made.two made.three) ≡ pos 1 ∷ pos 3 ∷ pos 5 ∷ [] =
      (says.each 0 Fir 0 mean (life made.one made.two made.three) (lawful Fir mean) born).gives.outputs ∙ fir mean (Sample (pos 6) ∷ Sample (pos 4) ∷ Sample (pos 2) ∷ []) in
      record { one = made.one; two = made.two; three = made.three; born = born; rest = refl; given = refl; gave = gave; fed = made.given ∙ gave; written = says.outputs 0 ∙ ap octets_of (made.given ∙ gave) }

  pub row_gave : FirGives → (result : Result Summary Fault) (old new : Devices) → CanRunRow old → length old.outputs ≡ 2
      → IfOk result (λ summary. RunHeadline voice_meaning voice_named words row_sizes poison summary.refused old new)
      → IfOk result (λ summary. RowGave poison summary.refused old new)
  row_gave fir (Ok summary) old new can two run =
      let first = first_gave fir run.says (all_honest old.inputs can.honest) (ap lines_of can.script ∙ are_lines) can.inputs in
      record {
        run = run;
        first = first;
        output = subst (λ octets. HoldsMore octets (slice_index_or old.outputs 0 no_sink) (slice_index_or new.outputs 0 no_sink))
            first.written (run.serves.writes.output 0 (omega (arith, two)));
      }
  row_gave fir (Err fault) old new can two run = tt
