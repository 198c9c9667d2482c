-- A kind in a type of its own: it means there what it means by itself.
use Rattle.ialg.specs.Meaning.{Meaning}

abbrev pub meaning_in : {A B : Type 0} → (B → A) → Meaning A → Meaning B
meaning_in kind_of kinds = record {
  same = λ a b. kinds.same (kind_of a) (kind_of b);
  table = λ b. kinds.table (kind_of b);
  gives = λ b. kinds.gives (kind_of b);
  accepts = λ b. kinds.accepts (kind_of b);
  got = λ b. kinds.got (kind_of b);
  declares = λ b. kinds.declares (kind_of b);
  lawful = λ b. kinds.lawful (kind_of b);
}
