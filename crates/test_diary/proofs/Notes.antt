-- What the words of a diary keep.
use Rattle.std.proofs.Common.{◌≡◌, ℕ, ℤ, zero, suc, pos, lit<, lit≤, ◌<◌, ◌≤◌, ◌+◌, List, [], ◌∷◌, length, refl, sym, ap, subst, ◌∙◌, arith}
use Rattle.mem_rec.specs.declared.MemRec.{MemRec}
use Rattle.mem_rec.specs.declared.Space.TheVariants.{Saram}
use Rattle.ialg.specs.declared.memory.Lent.{Lent}
use Rattle.ialg.specs.History.{History, Sample, Control, word_at, outputs_by, IsWordHistory}
use Rattle.ialg.specs.Log.{Log, Called, Init, called}
use Rattle.ialg.specs.Records.{words_of, lasting, unplaced, AllLent, LastingLent}
use Rattle.ialg.specs.Loans.{lent_words}
use Rattle.ialg.specs.Objects.{Names, NamedAt}
use Rattle.ialg.specs.Filters.{filter_records}
use Rattle.ialg.proofs.Tables.{lasting_at, lent_size, idle_lent_size}
use Rattle.test_diary.specs.declared.TheConstants.{DIARY_KIND}
use Rattle.test_diary.specs.Diary.{word_of, word_before, HasCalls, Notes, Keeps, Noted, HasNoted, diary_memory}

-- one more call
pub one_more : (c : Called) (old new : List ℤ) (cs : List Called) → length old ≡ 8 → HasCalls old cs → Noted (word_of c) old new → HasCalls new (c ∷ cs)
one_more c old new cs size has noted zero b = noted.newest (omega arith)
one_more c old new cs size has noted (suc k) b =
    ap (word_at new) (omega arith) ∙ noted.before k (omega arith) ∙ has k (omega arith)

pub diary_named : (m : Lent) → Names DIARY_KIND (filter_records diary_memory) m.table.now m.r0.now → length m.r1.now ≡ 8
    → NamedAt m Saram 1 DIARY_KIND (filter_records diary_memory)
diary_named m names size = record { names = names; not_the_object = lit≤ tt; within = lit< tt; few = lit≤ tt; its_space = refl; lent = omega arith }

module _ (rs : List MemRec) (wss : List (List ℤ)) (l : Log) where
  -- what an instance keeps stands in the records that last
  pub when_idle : Keeps rs wss l → Keeps rs (lasting rs wss) l
  when_idle keeps =
      let at = lasting_at rs (filter_records diary_memory) keeps.object.on_table wss in
      record { object = rw (at 0) keeps.object; notes = rw (at 1) keeps.notes }

  -- also by a table with other bases
  pub when_lent : (before : List MemRec) → unplaced before ≡ unplaced rs → Keeps before (lasting rs wss) l → Keeps before wss l
  when_lent before same keeps =
      let at = lasting_at rs (filter_records diary_memory) (sym same ∙ keeps.object.on_table) wss in
      record { object = rw (at 0) at keeps.object; notes = rw (at 1) at keeps.notes }

pub lent_diary : (rs : List MemRec) (wss : List (List ℤ)) → unplaced rs ≡ filter_records diary_memory → AllLent rs wss → length (words_of wss 1) ≡ 8
lent_diary rs wss e lent = lent_size rs (filter_records diary_memory) e wss lent 1

pub lasting_diary : (rs : List MemRec) (wss : List (List ℤ)) → unplaced rs ≡ filter_records diary_memory → LastingLent rs wss → length (words_of wss 1) ≡ 8
lasting_diary rs wss e lent = idle_lent_size rs (filter_records diary_memory) e wss lent 1

-- the diary has one call more, and the log is longer by it
pub with_note : (rs : List MemRec) (c : Called) (old new : Lent) (l after : Log) → IsWordHistory after.history → after.calls ≡ c ∷ l.calls
    → Keeps rs (lent_words old) l → length old.r1.now ≡ 8 → HasNoted (word_of c) old new → Keeps rs (lent_words new) after
with_note rs c old new l after words calls keeps size noted = record {
  object = rw noted.object keeps.object;
  notes = record { history = words; calls = rw calls (one_more c old.r1.now new.r1.now l.calls size keeps.notes.calls noted.noted) };
}

-- it gives nothing
pub nothing_given : (h : History) → outputs_by (λ _. []) h ≡ []
nothing_given [] = refl
nothing_given (Sample x ∷ h) = rw (nothing_given h) refl
nothing_given (Control c ∷ h) = nothing_given h
