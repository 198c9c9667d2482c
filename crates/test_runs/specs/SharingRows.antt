-- Worked rows: which instances share a write-once block, whose it is, and when it goes.
use Rattle.std.specs.Prelude.{ℕ, true, ◌==◌, pos, [], ◌∷◌, Some}
use Rattle.mem_rec.specs.declared.Space.TheVariants.{Saram, External}
use Rattle.ialg.specs.declared.refusal.Refusal.TheVariants.{Room}
use Rattle.ialg.specs.History.{word_at, samples_since_reset}
use Rattle.ialg.specs.Meaning.{Meaning}
use Rattle.voice_set.specs.declared.voice.Voice.{Voice}
use Rattle.voice_set.specs.declared.voice.Voice.TheVariants.{G711}
use Rattle.voice_set.specs.Voices.{voice_meaning}
use Rattle.host_spec.specs.Calls.{Call}
use Rattle.host_spec.specs.Calls.Call.{Create, Delete, Compact, Map}
use Rattle.test_runs.specs.Calls.{full, done, refused, record_block, Answers}
use Rattle.test_runs.specs.CreationRows.{Shape, constant, kept, needing}
use Rattle.test_runs.specs.VoiceRows.{sample}

-- a decoder of the first law and one of the second, each in a group of its own
abbrev pub decoder : ℕ → Call Voice
decoder i = Create i G711 i (pos 1 ∷ pos 1 ∷ []) done

abbrev pub other_decoder : ℕ → Call Voice
other_decoder i = Create i G711 i (pos 0 ∷ pos 1 ∷ []) done

-- kinds of one name that ask for what they like, as those that keep no law may
abbrev pub Named : Type 0
Named = ℕ × Shape

abbrev pub named : Meaning Named
named = record {
  same = λ a b. a.0 == b.0;
  table = λ kind p. Some kind.1;
  gives = λ kind p h. word_at (samples_since_reset h) 0 ∷ [];
  accepts = λ kind p c. true;
  got = λ kind p h. [];
  declares = λ kind p. true;
  lawful = λ kind p w. true;
}

-- instance i of the kind of that name, with these records behind its object
abbrev pub create_named : ℕ → ℕ → Shape → Call Named
create_named name i records = Create i (name, needing records) 0 [] done

pub record SharingRows : Type 0 where
  -- decoders of equal parameters share the block of their samples, which is the least one's, and one of other parameters has its own. It
  -- goes with the last of them
  pub shared : Answers voice_meaning full (
      decoder 0 ∷ decoder 1 ∷ other_decoder 2
      ∷ Map External (record_block 0 0 0 4 4 ∷ record_block 1 0 4 4 4 ∷ record_block 0 1 8 256 8 ∷ record_block 2 0 264 4 4 ∷ record_block 2 1 272 256 8 ∷ [])
      ∷ Delete 0 done
      ∷ Map External (record_block 1 0 4 4 4 ∷ record_block 1 1 8 256 8 ∷ record_block 2 0 264 4 4 ∷ record_block 2 1 272 256 8 ∷ [])
      ∷ sample 1 128 32124 ∷ Delete 1 done
      ∷ Map External (record_block 2 0 264 4 4 ∷ record_block 2 1 272 256 8 ∷ []) ∷ Compact External 2
      ∷ Map External (record_block 2 0 0 4 4 ∷ record_block 2 1 8 256 8 ∷ []) ∷ [])
  -- there is room for what isn't shared alone
  pub no_room : Answers voice_meaning (record full { external = 268 }) (
      decoder 0 ∷ decoder 1 ∷ Create 2 G711 2 (pos 0 ∷ pos 1 ∷ []) (refused (Room External)) ∷ decoder 3 ∷ [])
  -- an instance of a lesser number takes the block over, and where it goes the least of the others has it
  pub taken_over : Answers voice_meaning full (
      decoder 5 ∷ decoder 3 ∷ decoder 4
      ∷ Map External (record_block 5 0 0 4 4 ∷ record_block 3 0 4 4 4 ∷ record_block 3 1 8 256 8 ∷ record_block 4 0 264 4 4 ∷ [])
      ∷ Delete 3 done ∷ Map External (record_block 5 0 0 4 4 ∷ record_block 4 1 8 256 8 ∷ record_block 4 0 264 4 4 ∷ []) ∷ Delete 5 done
      ∷ Map External (record_block 4 1 8 256 8 ∷ record_block 4 0 264 4 4 ∷ []) ∷ [])
  -- all that share a block work on where it is moved
  pub compacted : Answers voice_meaning full (
      other_decoder 0 ∷ decoder 1 ∷ decoder 2 ∷ sample 1 128 32124 ∷ Delete 0 done ∷ Compact External 3
      ∷ Map External (record_block 1 0 0 4 4 ∷ record_block 1 1 8 256 8 ∷ record_block 2 0 264 4 4 ∷ [])
      ∷ sample 1 128 32124 ∷ sample 2 128 32124 ∷ [])
  -- a record is shared by its number
  pub another_number : Answers named full (
      create_named 1 0 (kept External 5 8 ∷ constant External 3 4 ∷ []) ∷ create_named 1 1 (constant External 3 4 ∷ [])
      ∷ Map External (record_block 0 0 0 4 4 ∷ record_block 0 2 4 4 4 ∷ record_block 0 1 8 8 8 ∷ record_block 1 0 16 4 4 ∷ record_block 1 1 20 4 4 ∷ []) ∷ [])
  -- by its size, its alignment and its space
  pub another_size : Answers named full (
      create_named 1 0 (constant External 3 4 ∷ []) ∷ create_named 1 1 (constant External 4 4 ∷ [])
      ∷ Map External (record_block 0 0 0 4 4 ∷ record_block 0 1 4 4 4 ∷ record_block 1 0 8 4 4 ∷ record_block 1 1 12 4 4 ∷ []) ∷ [])
  pub another_alignment : Answers named full (
      create_named 1 0 (constant External 3 4 ∷ []) ∷ create_named 1 1 (constant External 3 8 ∷ [])
      ∷ Map External (record_block 0 0 0 4 4 ∷ record_block 0 1 4 4 4 ∷ record_block 1 0 8 4 4 ∷ record_block 1 1 16 4 8 ∷ []) ∷ [])
  pub another_space : Answers named full (
      create_named 1 0 (constant External 3 4 ∷ []) ∷ create_named 1 1 (constant Saram 3 4 ∷ [])
      ∷ Map External (record_block 0 0 0 4 4 ∷ record_block 0 1 4 4 4 ∷ record_block 1 0 8 4 4 ∷ []) ∷ Map Saram (record_block 1 1 0 4 4 ∷ []) ∷ [])
  -- among instances of one kind
  pub another_kind : Answers named full (
      create_named 1 0 (constant External 3 4 ∷ []) ∷ create_named 2 1 (constant External 3 4 ∷ [])
      ∷ Map External (record_block 0 0 0 4 4 ∷ record_block 0 1 4 4 4 ∷ record_block 1 0 8 4 4 ∷ record_block 1 1 12 4 4 ∷ []) ∷ [])
  -- and each record by itself
  pub one_of_two : Answers named full (
      create_named 1 0 (constant External 3 4 ∷ constant External 8 4 ∷ []) ∷ create_named 1 1 (constant External 3 4 ∷ constant External 12 4 ∷ [])
      ∷ Map External (record_block 0 0 0 4 4 ∷ record_block 0 1 4 4 4 ∷ record_block 0 2 8 8 4 ∷ record_block 1 0 16 4 4 ∷ record_block 1 2 20 12 4 ∷ []) ∷ [])
  -- a record that isn't write-once is never shared
  pub persistent : Answers named full (
      create_named 1 0 (kept External 3 4 ∷ []) ∷ create_named 1 1 (kept External 3 4 ∷ [])
      ∷ Map External (record_block 0 0 0 4 4 ∷ record_block 0 1 4 4 4 ∷ record_block 1 0 8 4 4 ∷ record_block 1 1 12 4 4 ∷ []) ∷ [])
