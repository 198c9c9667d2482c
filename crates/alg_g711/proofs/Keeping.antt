-- An instance in its records: what it keeps is the same idle and active, and a decoder finds the samples of the codes.
use Rattle.std.proofs.Common.{◌≡◌, ℕ, zero, suc, ℤ, Option, List, [], length, Some, option_map, refl, sym, ap, ◌∙◌, lit<, lit≤, arith}
use Rattle.mem_rec.specs.declared.MemRec.{MemRec}
use Rattle.mem_rec.specs.declared.Space.TheVariants.{External}
use Rattle.mem_rec.specs.declared.Attr.TheVariants.{Persist, WriteOnce}
use Rattle.ialg.specs.declared.memory.Lent.{Lent}
use Rattle.ialg.specs.History.{History, IsWordHistory}
use Rattle.ialg.specs.Records.{record_at, words_of, unplaced, lasting, lasting_words, AllLent, HoldFill}
use Rattle.ialg.specs.Loans.{lent_words}
use Rattle.ialg.specs.Objects.{Names, NamedAt, object_memory}
use Rattle.ialg.proofs.Tables.{words_of-lasting, lasting_at, lent_size, attr_of}
use Rattle.alg_g711.specs.declared.TheConstants.{CODES}
use Rattle.alg_g711.specs.declared.companding.Law.{Law}
use Rattle.alg_g711.specs.declared.coder.Direction.{Direction}
use Rattle.alg_g711.specs.declared.coder.Direction.TheVariants.{Encode, Decode}
use Rattle.alg_g711.specs.declared.coder.Coder.{Coder}
use Rattle.alg_g711.specs.Companding.{samples_of_codes}
use Rattle.alg_g711.specs.Meaning.{coder_named, kind_word, records_of}
use Rattle.alg_g711.specs.Keeps.{Keeps, fill_by, fill_of}

once_lasts : (rs : List MemRec) (wss : List (List ℤ)) (k : ℕ) → (record_at rs k).attr ≡ WriteOnce
    → words_of (lasting rs wss) k ≡ words_of wss k
once_lasts rs wss k once = words_of-lasting rs wss k ∙ ap (λ a. lasting_words a (words_of wss k)) once

-- the object comes first
pub first_record : (direction : Direction) → record_at (records_of direction) 0 ≡ object_memory
first_record Encode = refl
first_record Decode = refl

object_lasts : (rs : List MemRec) (direction : Direction) (wss : List (List ℤ)) → unplaced rs ≡ records_of direction
    → words_of (lasting rs wss) 0 ≡ words_of wss 0
object_lasts rs direction wss records =
    lasting_at rs (records_of direction) records wss 0 ∙ ap (λ r. lasting_words r.attr (words_of wss 0)) (first_record direction)

-- the words that last keep what all words keep
pub without_scratch : (p : List ℤ) (rs : List MemRec) (wss : List (List ℤ)) (h : History) → Keeps p rs wss h → Keeps p rs (lasting rs wss) h
without_scratch p rs wss h keeps =
    let object = object_lasts rs keeps.coder.direction wss keeps.object.on_table in
    record {
      coder = keeps.coder;
      granted = keeps.granted;
      object = rw object keeps.object;
      samples = λ k once. once_lasts rs wss k once ∙ keeps.samples k once;
      history = keeps.history;
    }

-- so do those that last by a table with other bases
pub with_scratch : (p : List ℤ) (before after : List MemRec) (wss : List (List ℤ)) (h : History) → unplaced before ≡ unplaced after
    → Keeps p before (lasting after wss) h → Keeps p before wss h
with_scratch p before after wss h moved keeps =
    let records : unplaced after ≡ records_of keeps.coder.direction = sym moved ∙ keeps.object.on_table in
    let object = object_lasts after keeps.coder.direction wss records in
    record {
      coder = keeps.coder;
      granted = keeps.granted;
      object = rw object at keeps.object;
      samples = λ k once.
          let same = attr_of after (records_of keeps.coder.direction) records k ∙ sym (attr_of before (records_of keeps.coder.direction) keeps.object.on_table k) in
          sym (once_lasts after wss k (same ∙ once)) ∙ keeps.samples k once;
      history = keeps.history;
    }

-- the samples of the codes are found
pub samples_named : (m : Lent) (law : Law) → Names (kind_word law Decode) (records_of Decode) m.table.now m.r0.now
    → length m.r1.now ≡ CODES → NamedAt m External 1 (kind_word law Decode) (records_of Decode)
samples_named m law names size = record {
  names = names;
  not_the_object = lit≤ tt;
  within = lit< tt;
  few = lit≤ tt;
  its_space = refl;
  lent = omega arith;
}

-- a decoder finds them, and they are those of its law
pub record Decodes (m : Lent) (law : Law) : Type 0 where
  pub named : NamedAt m External 1 (kind_word law Decode) (records_of Decode)
  pub samples : m.r1.now ≡ samples_of_codes law

-- the write-once record of a decoder has them
once_words : (p : List ℤ) (rs : List MemRec) (wss : List (List ℤ)) (coder : Coder) → coder_named p ≡ Some coder → coder.direction ≡ Decode
    → Names (kind_word coder.law coder.direction) (records_of coder.direction) rs (words_of wss 0)
    → HoldFill (fill_of (coder_named p)) rs wss → words_of wss 1 ≡ samples_of_codes coder.law
once_words p rs wss coder granted way object samples =
    let names : Names (kind_word coder.law Decode) (records_of Decode) rs (words_of wss 0) = rw way at object in
    samples 1 (attr_of rs (records_of Decode) names.on_table 1) ∙ ap (λ o. fill_of o 1) granted ∙ rw way refl

-- who has such a record is a decoder
once_decodes : (rs : List MemRec) (wss : List (List ℤ)) (direction : Direction) → unplaced rs ≡ records_of direction → AllLent rs wss
    → length (words_of wss 1) ≡ CODES → direction ≡ Decode
once_decodes rs wss Encode records lent size = let none = lent_size rs (records_of Encode) records wss lent 1 in absurd (omega (arith, none, size))
once_decodes rs wss Decode records lent size = refl

pub decodes_by_words : (p : List ℤ) (rs : List MemRec) (wss : List (List ℤ)) (h : History) (keeps : Keeps p rs wss h) → AllLent rs wss
    → length (words_of wss 1) ≡ CODES → keeps.coder.direction ≡ Decode
decodes_by_words p rs wss h keeps lent size = once_decodes rs wss keeps.coder.direction keeps.object.on_table lent size

pub decoder_words : (p : List ℤ) (rs : List MemRec) (wss : List (List ℤ)) (h : History) (keeps : Keeps p rs wss h)
    → keeps.coder.direction ≡ Decode → words_of wss 1 ≡ samples_of_codes keeps.coder.law
decoder_words p rs wss h keeps way = once_words p rs wss keeps.coder keeps.granted way keeps.object keeps.samples

decoder_of : (p : List ℤ) (m : Lent) (coder : Coder) (law : Law) → coder_named p ≡ Some coder → coder.law ≡ law → coder.direction ≡ Decode
    → Names (kind_word coder.law coder.direction) (records_of coder.direction) m.table.now m.r0.now
    → HoldFill (fill_of (coder_named p)) m.table.now (lent_words m) → AllLent m.table.now (lent_words m) → Decodes m law
decoder_of p m coder law granted is way object samples lent =
    let names : Names (kind_word law Decode) (records_of Decode) m.table.now m.r0.now = rw (is, way) at object in
    let all = lent_size m.table.now (records_of Decode) names.on_table (lent_words m) lent in
    record {
      named = samples_named m law names (all 1);
      samples = once_words p m.table.now (lent_words m) coder granted way object samples ∙ ap samples_of_codes is;
    }

pub decodes : (p : List ℤ) (m : Lent) (h : History) (law : Law) (keeps : Keeps p m.table.now (lent_words m) h)
    → keeps.coder.law ≡ law → keeps.coder.direction ≡ Decode → AllLent m.table.now (lent_words m) → Decodes m law
decodes p m h law keeps is way lent = decoder_of p m keeps.coder law keeps.granted is way keeps.object keeps.samples lent

-- the same words after one more entry, or some
pub goes_on : (p : List ℤ) (rs : List MemRec) (wss : List (List ℤ)) (h after : History) → IsWordHistory after → Keeps p rs wss h
    → Keeps p rs wss after
goes_on p rs wss h after words keeps =
    record { coder = keeps.coder; granted = keeps.granted; object = keeps.object; samples = keeps.samples; history = words }

-- ---- the object was written

persistent : Persist ≡ WriteOnce → ⊥
persistent e = cc

-- a decoder's write-once record has the samples of the codes, and an encoder has none
once_at : (law : Law) (direction : Direction) (wss : List (List ℤ)) (k : ℕ) → (record_at (records_of direction) k).attr ≡ WriteOnce
    → (direction ≡ Decode → words_of wss 1 ≡ samples_of_codes law) → words_of wss k ≡ fill_by law direction k
once_at law Encode wss zero once written = cc
once_at law Encode wss (suc k) once written = cc
once_at law Decode wss zero once written = cc
once_at law Decode wss (suc zero) once written = written refl
once_at law Decode wss (suc (suc k)) once written = cc

-- the coder of a table that was granted
pub granted_records : (asked : Option Coder) (coder : Coder) (t : List MemRec) → asked ≡ Some coder → option_map (λ c. records_of c.direction) asked ≡ Some t
    → t ≡ records_of coder.direction
granted_records asked coder t e f = let g : Some (records_of coder.direction) ≡ Some t = rw e at f in cc

pub begun : (p : List ℤ) (rs : List MemRec) (wss : List (List ℤ)) (coder : Coder) → coder_named p ≡ Some coder
    → unplaced rs ≡ records_of coder.direction
    → Names (kind_word coder.law coder.direction) (unplaced rs) rs (words_of wss 0)
    → (coder.direction ≡ Decode → words_of wss 1 ≡ samples_of_codes coder.law) → Keeps p rs wss []
begun p rs wss coder granted records names written = record {
  coder = coder;
  granted = granted;
  object = rw records at names;
  samples = λ k once.
      once_at coder.law coder.direction wss k (sym (attr_of rs (records_of coder.direction) records k) ∙ once) written
      ∙ sym (ap (λ o. fill_of o k) granted);
  history = tt;
}

-- the object names the records of a table with other bases
module _ (p : List ℤ) (before after : List MemRec) (old new : List (List ℤ)) (h : History) (moved : unplaced before ≡ unplaced after) where
  follows_at : (keeps : Keeps p before old h) → ((k : ℕ) → (0 ≡ k → ⊥) → words_of new k ≡ words_of old k) → (k : ℕ)
      → (record_at after k).attr ≡ WriteOnce → words_of new k ≡ fill_of (coder_named p) k
  follows_at keeps others zero once =
      let e = attr_of after (records_of keeps.coder.direction) (sym moved ∙ keeps.object.on_table) 0 in
      absurd (persistent (sym (e ∙ ap (λ r. r.attr) (first_record keeps.coder.direction)) ∙ once))
  follows_at keeps others (suc k) once =
      let e = attr_of after (records_of keeps.coder.direction) (sym moved ∙ keeps.object.on_table) (suc k) in
      let f = attr_of before (records_of keeps.coder.direction) keeps.object.on_table (suc k) in
      others (suc k) (λ z. omega arith) ∙ keeps.samples (suc k) (f ∙ sym e ∙ once)

  pub follows : (keeps : Keeps p before old h)
      → Names (kind_word keeps.coder.law keeps.coder.direction) (unplaced after) after (words_of new 0)
      → ((k : ℕ) → (0 ≡ k → ⊥) → words_of new k ≡ words_of old k) → Keeps p after new h
  follows keeps names others =
      let records : unplaced after ≡ records_of keeps.coder.direction = sym moved ∙ keeps.object.on_table in
      record { coder = keeps.coder; granted = keeps.granted; object = rw records at names; samples = follows_at keeps others; history = keeps.history }
