-- The first example, by the clause `sounds` alone.
use Rattle.std.proofs.Common.{◌≡◌, ◌<◌, ◌≤◌, ℕ, ℤ, pos, Bool, true, List, [], ◌∷◌, ◌++◌, length, Option, Some, None, Result, Ok, Err, IfOk, refl, ap, sym, ◌∙◌, subst, arith}
use Rattle.std.specs.Prelude.{codes, drop, slice_index_or}
use Rattle.std.specs.Fmt.{digits}
use Rattle.std.proofs.lemmas.Bool.{leb-true}
use Rattle.alg_fir.specs.Equation.{fir_output}
use Rattle.ialg.specs.History.{History, Sample, outputs_by}
use Rattle.ialg.specs.Meaning.{outputs_of}
use Rattle.octet_ports.specs.Ports.{Holds}
use Rattle.host_spec.specs.Answers.{AreLawful}
use Rattle.voice_set.specs.declared.voice.Voice.{Voice}
use Rattle.voice_set.specs.declared.voice.Voice.TheVariants.{Fir}
use Rattle.voice_set.specs.Voices.{voice_meaning, voice_named}
use Rattle.voice_script.specs.Script.{lines_of}
use Rattle.voice_script.specs.Replies.{Reply, Count, Done, Flag, Map, No, Stat, Words}
use Rattle.voice_script.specs.Served as asks
use Rattle.voice_script.specs.Served.{Answer, LinesAnswer, Output, Replied, Run, Tell, Written, held_by, order_of, refusals}
use Rattle.console_spec.specs.Sounds.{Playing, Sounding, Sounds, silence, sound_machine, with_instance, with_members}
use Rattle.console_spec.specs.SoundLaws.{SoundsAreOne, heard, rooms_told, without_numbers}
use Rattle.script_server.specs.Runs.{Devices, honest_at, no_sink, octets_to_come}
use Rattle.script_server.proofs.Honest.{all_honest}
use Rattle.dsp_console.specs.declared.serving.Summary.{Summary}
use Rattle.dsp_console.specs.declared.serving.Fault.{Fault}
use Rattle.dsp_console.specs.Headline.{RunSounds}
use Rattle.test_runs.specs.ConsoleRows.{minus, replies_of, words}
use Rattle.test_runs.specs.FirstExample.{CanRunFirst, FirstSounds, first_input, first_output, first_script, had_room}

abbrev half : List ℤ
half = pos 16384 ∷ []

abbrev first_lines : List (List ℕ)
first_lines = codes "create 0 fir 0 16384" ∷ codes " chain 0 0" ∷ codes " feed 0 2" ∷ []

are_lines : lines_of first_script ≡ first_lines
are_lines = refl

-- what is written for the three lines
abbrev first_written : List Written
first_written = Replied Done ∷ Replied Done ∷ Output 0 first_output ∷ Replied (Count 2) ∷ []

abbrev playing : History → Option (Playing Voice)
playing given = Some (record { kind = Fir; params = half; history = given })

abbrev s0 : Sounding Voice
s0 = (silence {M = Voice} (first_input ∷ [])).state

abbrev s1 : Sounding Voice
s1 = with_instance s0 0 (playing [])

abbrev s2 : Sounding Voice
s2 = with_members s1 0 (0 ∷ [])

abbrev s3 : Sounding Voice
s3 = with_instance s2 0 (playing (Sample (minus 1) ∷ Sample (pos 1) ∷ []))

abbrev over : Sounding Voice → List (List ℕ) → Run (Sounding Voice)
over state inputs = record { state = state; inputs = inputs }

-- what `fir` gives, by its equation
abbrev pub FirGives : Type 0
FirGives = (p : List ℤ) (h : History) → outputs_of voice_meaning Fir p h ≡ outputs_by (λ t. fir_output p t ∷ []) h

-- a console without memory may answer so, where the creation has room
first_sounds : FirGives → (honest : ℕ → Bool) → Sounds voice_meaning voice_named words None first_lines (first_input ∷ []) ([] ∷ []) honest first_written
first_sounds fir honest = record {
  answer = record { run = over s3 ([] ∷ []); written = first_written };
  may = (
    record { run = over s1 (first_input ∷ []); written = Replied Done ∷ [] },
    record { long = λ more. absurd (omega (arith, more)); fits = λ few. (Tell Done, s1, (true, None, (λ lawful. refl), refl), refl) },
    record { run = over s3 ([] ∷ []); written = Replied Done ∷ Output 0 first_output ∷ Replied (Count 2) ∷ [] },
    (
      record { run = over s2 (first_input ∷ []); written = Replied Done ∷ [] },
      record { long = λ more. absurd (omega (arith, more)); fits = λ few. (Tell Done, s2, refl, refl) },
      record { run = over s3 ([] ∷ []); written = Output 0 first_output ∷ Replied (Count 2) ∷ [] },
      (
        record { run = over s3 ([] ∷ []); written = Output 0 first_output ∷ Replied (Count 2) ∷ [] },
        record {
          long = λ more. absurd (omega (arith, more));
          fits = λ few. (
            asks.Feed 0 4,
            s2,
            refl,
            record {
              octets = first_input;
              left = [];
              first = λ is. refl;
              short = λ less. absurd (omega (arith, less));
              whole = λ enough. (
                refl,
                (
                  first_output,
                  2,
                  s3,
                  (
                    pos 1 ∷ pos 0 ∷ [],
                    (
                      record { kind = Fir; params = half; history = [] },
                      pos 1 ∷ pos 0 ∷ [],
                      refl,
                      (λ lawful. fir half (Sample (minus 1) ∷ Sample (pos 1) ∷ []), leb-true 2 2 refl),
                      (refl, refl),
                    ),
                    refl,
                    refl,
                  ),
                  refl,
                ),
              );
            },
          );
        },
        record { run = over s3 ([] ∷ []); written = [] },
        refl,
        refl,
      ),
      refl,
    ),
    refl,
  );
  writes = refl;
  leaves = refl;
}

is_done : (reply : Reply) → without_numbers reply ≡ Done → reply ≡ Done
is_done Done e = refl
is_done (Count n) e = cc
is_done (Flag flag) e = cc
is_done (Stat active activations) e = cc
is_done (Map blocks) e = cc
is_done (No refusal) e = cc
is_done (Words ws) e = cc

is_nothing : (written : List Written) → heard written ≡ [] → written ≡ []
is_nothing [] e = refl
is_nothing (Replied reply ∷ written) e = cc
is_nothing (Output c octets ∷ []) e = cc
is_nothing (Output c octets ∷ reply ∷ written) e = cc

-- a reply without a number of memory is told as it is
begins_done : (written more : List Written) → heard written ≡ Replied Done ∷ more → written ≡ Replied Done ∷ drop 1 written
begins_done [] more e = cc
begins_done (Replied reply ∷ written) more e = ap (λ r. Replied r ∷ written) (is_done reply cc)
begins_done (Output c octets ∷ []) more e = cc
begins_done (Output c octets ∷ reply ∷ written) more e = cc

goes_on : (written more : List Written) → heard written ≡ Replied Done ∷ more → heard (drop 1 written) ≡ more
goes_on [] more e = cc
goes_on (Replied reply ∷ written) more e = cc
goes_on (Output c octets ∷ []) more e = cc
goes_on (Output c octets ∷ reply ∷ written) more e = cc

-- and an output and its count are
ends_so : (written : List Written) (output count : Written) → heard written ≡ output ∷ count ∷ [] → output ≡ Output 0 first_output → written ≡ output ∷ count ∷ []
ends_so [] output count e is = cc
ends_so (Replied reply ∷ written) output count e is = cc
ends_so (Output c octets ∷ []) output count e is = cc
ends_so (Output c octets ∷ reply ∷ written) output count e is = rw (is_nothing written cc) cc

heard_first : (written : List Written) → heard written ≡ first_written → written ≡ first_written
heard_first written e =
    let one = begins_done written (drop 1 first_written) e in
    let rest = goes_on written (drop 1 first_written) e in
    let two = begins_done (drop 1 written) (drop 2 first_written) rest in
    let last = ends_so (drop 1 (drop 1 written)) (Output 0 first_output) (Replied (Count 2)) (goes_on (drop 1 written) (drop 2 first_written) rest) refl in
    one ∙ ap (λ w. Replied Done ∷ w) (two ∙ ap (λ w. Replied Done ∷ w) last)

module _ (poison : Option ℤ) (none : AreLawful voice_meaning None) (lawful : AreLawful voice_meaning poison) (one : SoundsAreOne Voice) (fir : FirGives) where
  -- what was written, where the creation had room
  written_is : (lines inputs rest : List (List ℕ)) (honest : ℕ → Bool) (written : List Written) → ((c : ℕ) → honest c ≡ true)
      → lines ≡ first_lines → inputs ≡ first_input ∷ [] → Sounds voice_meaning voice_named words poison lines inputs rest honest written
      → rooms_told written ≡ had_room → written ≡ first_written
  written_is lines inputs rest honest written all same same_inputs sounds rooms =
      let its = subst (λ ls. Sounds voice_meaning voice_named words poison ls (first_input ∷ []) rest honest written) same
      (subst (λ xs. Sounds voice_meaning voice_named words poison lines xs rest honest written) same_inputs sounds) in
      heard_first written (one voice_meaning voice_named words poison None first_lines (first_input ∷ []) rest ([] ∷ []) honest written first_written lawful none all its (first_sounds fir honest) rooms).1

  pub first_sounds_like_it : (result : Result Summary Fault) (old new : Devices) → CanRunFirst old → length old.outputs ≡ 1
      → IfOk result (λ summary. RunSounds voice_meaning voice_named words poison summary.refused old new)
      → IfOk result (λ summary. FirstSounds poison summary.refused old new)
  unfolding digits held_by order_of refusals
  first_sounds_like_it (Ok summary) old new can single run =
      let sounds : Sounds voice_meaning voice_named words poison (lines_of old.script.coming) (octets_to_come old.inputs) run.answer.run.inputs (honest_at old.inputs) run.answer.written =
      record { answer = run.answer; may = run.is_answer; writes = refl; leaves = refl } in
      let written = written_is (lines_of old.script.coming) (octets_to_come old.inputs) run.answer.run.inputs (honest_at old.inputs) run.answer.written (all_honest old.inputs can.honest)
      (ap lines_of can.script ∙ are_lines) can.inputs sounds in
      record {
        run = run;
        output = λ rooms. subst (λ w. Holds (held_by (Some 0) (order_of w)) (slice_index_or old.outputs 0 no_sink) (slice_index_or new.outputs 0 no_sink)) (written rooms)
            (run.writes.output 0 (omega (arith, single)));
        replies = λ rooms. subst (λ w. Holds (held_by None (order_of w)) old.replies new.replies) (written rooms) run.writes.reply;
        refused_none = λ rooms. sym run.counted ∙ ap refusals (written rooms);
      }
  first_sounds_like_it (Err fault) old new can single run = tt
