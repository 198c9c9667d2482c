-- Worked rows: what a host of the hosted kinds answers.
use Rattle.std.specs.Prelude.{ℕ, ℤ, true, false, pos, List, [], ◌∷◌, Ok}
use Rattle.mem_rec.specs.declared.Space.TheVariants.{Daram, Saram, External}
use Rattle.ialg.specs.declared.refusal.Refusal.TheVariants.{Range, Taken, Missing, Params, Room, Command}
use Rattle.ialg.specs.History.{Set, Reset, Get}
use Rattle.ialg.specs.Meaning.{Done, Words}
use Rattle.voice_set.specs.declared.voice.Voice.{Voice}
use Rattle.voice_set.specs.declared.voice.Voice.TheVariants.{Fir, Decim, Biquad, G711}
use Rattle.voice_set.specs.Voices.{voice_meaning}
use Rattle.host_spec.specs.Calls.{Call}
use Rattle.host_spec.specs.Calls.Call.{Create, Control, Process, Delete, Release, Step, Compact, Stat, Map, Lives, Copied}
use Rattle.test_runs.specs.Calls.{full, with_daram, done, refused, active, resting, record_block, group_block, Answers}

-- the mean of two samples, and a filter with a longer need
abbrev pub mean : List ℤ
mean = pos 16384 ∷ pos 16384 ∷ []

abbrev pub nine : List ℤ
nine = pos 1 ∷ pos 0 ∷ pos 0 ∷ pos 0 ∷ pos 0 ∷ pos 0 ∷ pos 0 ∷ pos 0 ∷ pos 0 ∷ []

-- one sample in, one out
abbrev pub sample : ℕ → ℕ → ℕ → Call Voice
sample i x y = Process i (pos x ∷ []) (pos y ∷ [])

-- the block of a group is replaced by a longer one while a member is active
abbrev pub replacing : List (Call Voice) → List (Call Voice)
replacing more =
    Create 0 Fir 0 mean done ∷ sample 0 2 1 ∷ Create 1 Fir 0 nine done ∷ Map Daram (group_block 0 1040 1032 16 ∷ [])
    ∷ Stat 0 (resting 1) ∷ sample 0 4 3 ∷ Stat 0 (active 0 2) ∷ more

pub record VoiceRows : Type 0 where
  -- two members work by turns in the same block
  pub turns : Answers voice_meaning (with_daram 1028) (
      Create 0 Fir 0 mean done ∷ Create 1 Fir 0 mean done ∷ sample 0 2 1 ∷ sample 1 10 5 ∷ sample 0 4 3 ∷ sample 1 20 15
      ∷ Stat 0 (active 1 4) ∷ Map Daram (group_block 0 0 1028 16 ∷ []) ∷ Release 0 (Ok true) ∷ Release 0 (Ok false) ∷ Stat 0 (resting 4) ∷ [])
  -- a refused creation leaves no record
  pub no_room : Answers voice_meaning (with_daram 1028) (
      Create 0 Fir 0 mean done ∷ Create 1 Fir 1 mean (refused (Room Daram)) ∷ Map Daram (group_block 0 0 1028 16 ∷ [])
      ∷ Map Saram (record_block 0 1 0 4 4 ∷ []) ∷ Map External (record_block 0 0 0 4 4 ∷ []) ∷ Lives 0 true ∷ Lives 1 false ∷ [])
  pub replaced : Answers voice_meaning (with_daram 2072) (replacing [])
  -- the old block stands while the new one is placed
  pub not_replaced : Answers voice_meaning (with_daram 2068) (
      Create 0 Fir 0 mean done ∷ sample 0 2 1 ∷ Create 1 Fir 0 nine (refused (Room Daram)) ∷ Map Daram (group_block 0 0 1028 16 ∷ [])
      ∷ sample 0 4 3 ∷ Stat 0 (active 0 1) ∷ [])
  -- an active member stays active while its scratch moves
  pub compacted : Answers voice_meaning (with_daram 2072) (
      replacing (Compact Daram 1 ∷ Map Daram (group_block 0 0 1032 16 ∷ []) ∷ sample 0 6 5 ∷ Stat 0 (active 0 2) ∷ Copied 1032 ∷ []))
  -- the gap that an alignment makes is none
  pub packed : Answers voice_meaning full (
      Create 0 Decim 0 (pos 2 ∷ pos 1 ∷ pos 1 ∷ pos 1 ∷ []) done ∷ Map External (record_block 0 0 0 4 4 ∷ record_block 0 2 8 4 8 ∷ [])
      ∷ Compact External 0 ∷ Step External false ∷ Copied 0 ∷ [])
  -- a new instance has the old number alone
  pub anew : Answers voice_meaning full (
      Create 3 Fir 0 mean done ∷ sample 3 100 50 ∷ Delete 3 done ∷ Lives 3 false ∷ Map Daram [] ∷ Stat 0 (resting 1)
      ∷ Create 3 Fir 0 mean done ∷ sample 3 0 0 ∷ Stat 0 (active 3 2) ∷ [])
  pub missing : Answers voice_meaning full (
      Control 5 (Set (pos 1 ∷ [])) (refused Missing) ∷ Create 0 Fir 0 (pos 1 ∷ pos 2 ∷ []) done ∷ Create 1 Fir 0 (pos 1 ∷ pos 2 ∷ []) done
      ∷ sample 0 0 0 ∷ Control 1 (Set (pos 7 ∷ [])) (refused Command) ∷ Stat 0 (active 0 1) ∷ [])
  -- an empty block touches no instance
  pub untouched : Answers voice_meaning full (
      Create 0 Decim 0 (pos 2 ∷ mean) done ∷ Create 1 Fir 1 (pos 16384 ∷ []) done ∷ Process 0 (pos 2 ∷ []) [] ∷ Process 1 [] []
      ∷ Stat 1 (resting 0) ∷ sample 0 4 3 ∷ sample 1 3 2 ∷ Stat 1 (active 1 1) ∷ [])
  pub moved : Answers voice_meaning full (
      Create 0 Biquad 0 (pos 16384 ∷ pos 0 ∷ pos 0 ∷ pos 0 ∷ pos 0 ∷ []) done ∷ Create 1 Fir 1 mean done ∷ sample 1 2 1 ∷ Delete 0 done
      ∷ Map Daram (group_block 1 16 1028 16 ∷ []) ∷ Step Daram true ∷ Map Daram (group_block 1 0 1028 16 ∷ []) ∷ sample 1 4 3
      ∷ Step Daram false ∷ Compact Saram 1 ∷ Compact External 1 ∷ sample 1 6 5 ∷ Stat 1 (active 1 1) ∷ Copied 1036 ∷ [])
  pub controlled : Answers voice_meaning full (
      Create 0 Fir 0 mean done ∷ sample 0 2 1 ∷ Control 0 (Set (pos 8192 ∷ pos 16384 ∷ [])) (Ok Done) ∷ sample 0 4 2
      ∷ Control 0 Get (Ok (Words (pos 8192 ∷ pos 16384 ∷ []))) ∷ Control 0 Reset (Ok Done) ∷ sample 0 6 2 ∷ Stat 0 (active 0 1) ∷ [])
  pub phase : Answers voice_meaning full (
      Create 0 Decim 0 (pos 2 ∷ mean) done ∷ Process 0 (pos 2 ∷ pos 4 ∷ pos 6 ∷ []) (pos 3 ∷ []) ∷ Control 0 Get (Ok (Words (pos 1 ∷ [])))
      ∷ sample 0 8 7 ∷ [])
  -- each refusal comes before those that follow it
  pub refusals : Answers voice_meaning (with_daram 0) (
      Create 64 Fir 0 mean (refused Range) ∷ Create 0 Fir 8 mean (refused Range) ∷ Create 0 G711 7 (pos 0 ∷ pos 0 ∷ []) done
      ∷ Create 0 Fir 0 [] (refused Taken) ∷ Create 1 Fir 0 [] (refused Params) ∷ Create 1 Fir 0 (pos 1 ∷ []) (refused (Room Daram))
      ∷ Control 64 Get (refused Range) ∷ Control 1 Get (refused Missing) ∷ Delete 64 (refused Range) ∷ Delete 1 (refused Missing)
      ∷ Release 8 (refused Range) ∷ Stat 8 (refused Range) ∷ Stat 7 (resting 0) ∷ [])
