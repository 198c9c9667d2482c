-- The algorithm types that keep no law: what each means, the names, and the records that a rogue asks for.
use Rattle.std.specs.Prelude.{ℕ, ℤ, Bool, true, false, ◌==◌, List, [], ◌∷◌, Option, Some, None, bytes_eq, codes, if◌then◌else◌}
use Rattle.mem_rec.specs.declared.TheConstants.{LEAST_ALIGNMENT}
use Rattle.mem_rec.specs.declared.MemRec.{MemRec}
use Rattle.mem_rec.specs.declared.Space.TheVariants.{Daram, Saram}
use Rattle.mem_rec.specs.declared.Attr.TheVariants.{Scratch, Persist}
use Rattle.ialg.specs.Meaning.{Meaning}
use Rattle.ialg.specs.Objects.{object_memory}
use Rattle.voice_set.specs.declared.voice.Voice.{Voice}
use Rattle.kind_parts.specs.declared.either.Or.{Or}
use Rattle.kind_parts.specs.Either.{told}
use Rattle.test_doubles.specs.declared.rogue_records.TheConstants.{KEPT_WORDS, SCRATCH_WORDS, SCRATCH_ALIGNMENT}
use Rattle.test_doubles.specs.declared.rogue.Rogue.{Rogue}
use Rattle.test_doubles.specs.declared.rogue.Rogue.TheVariants.{Scribble, Clinger, Forger, Babbler}
use Rattle.test_doubles.specs.declared.scribbler.Scribbler.{Scribbler}

-- the object, the kept words and the scratch words
abbrev pub rogue_records : List MemRec
rogue_records =
    object_memory
    ∷ record { size = KEPT_WORDS; align = LEAST_ALIGNMENT; space = Saram; attr = Persist; base = 0 }
    ∷ record { size = SCRATCH_WORDS; align = SCRATCH_ALIGNMENT; space = Daram; attr = Scratch; base = 0 }
    ∷ []

-- a rogue takes no parameters
abbrev pub rogue_table : List ℤ → Option (List MemRec)
rogue_table [] = Some rogue_records
rogue_table (x ∷ p) = None

-- the place of a rogue among the rogues
abbrev pub rogue_place : Rogue → ℕ
rogue_place Scribble = 0
rogue_place Clinger = 1
rogue_place Forger = 2
rogue_place Babbler = 3

-- a rogue is never lawful, and declares the memory that it asks for
abbrev pub rogue_meaning : Meaning Rogue
rogue_meaning = record {
  same = λ a b. rogue_place a == rogue_place b;
  table = λ _ p. rogue_table p;
  gives = λ _ p h. [];
  accepts = λ _ p c. false;
  got = λ _ p h. [];
  declares = λ _ p. true;
  lawful = λ _ p w. false;
}

abbrev pub rogue_named : List ℕ → Option Rogue
rogue_named name =
    if bytes_eq name (codes "scribble") then Some Scribble
    else (if bytes_eq name (codes "clinger") then Some Clinger
    else (if bytes_eq name (codes "forger") then Some Forger
    else (if bytes_eq name (codes "babbler") then Some Babbler
    else None)))

-- a scribbler is never lawful, and declares nothing
abbrev pub scribbler_meaning : Meaning Scribbler
scribbler_meaning = record {
  same = λ a b. true;
  table = λ _ p. None;
  gives = λ _ p h. [];
  accepts = λ _ p c. false;
  got = λ _ p h. [];
  declares = λ _ p. false;
  lawful = λ _ p w. false;
}

-- whether a kind is a hosted one
abbrev pub is_voice : Or Voice Rogue → Bool
is_voice kind = told (λ voice. true) (λ rogue. false) kind
