-- An algorithm that keeps no law: what it means is never asked.
use Rattle.std.specs.Prelude.{true, false, [], None}
use Rattle.ialg.specs.Meaning.{Meaning}

abbrev pub diary_meaning : {Diary : Type 0} → Meaning Diary
diary_meaning = record {
  same = λ a b. true;
  table = λ _ p. None;
  gives = λ _ p h. [];
  accepts = λ _ p c. false;
  got = λ _ p h. [];
  declares = λ _ p. false;
  lawful = λ _ p w. false;
}
