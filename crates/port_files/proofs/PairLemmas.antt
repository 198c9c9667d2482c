-- Words taken two at a time.
use Rattle.std.proofs.Common.{◌≡◌, ◌≤◌, ◌<◌, ◌*◌, ◌%◌, ℕ, refl, sym, ap, ◌∙◌, arith, List, [], ◌∷◌, ◌++◌, length, slice_index_or, length-append, append_assoc, append-nil}
use Rattle.std.proofs.lemmas.List.{nil_from_length}
use Rattle.std.proofs.lemmas.List.Concat.{flat_map-append}
use Rattle.std.specs.List.{flat_map}
use Rattle.port_files.specs.Pairs.{both}

module _ {A : Type 0} where
  -- two words are the first and the second
  pub two_words : (none : A) (words : List A) → length words ≡ 2
      → slice_index_or words 0 none ∷ slice_index_or words 1 none ∷ [] ≡ words
  two_words none [] two = absurd (omega arith)
  two_words none (a ∷ []) two = absurd (omega arith)
  two_words none (a ∷ b ∷ []) two = refl
  two_words none (a ∷ b ∷ c ∷ words) two = absurd (omega arith)

  pub twice_as_many : (pairs : List (A × A)) → length (flat_map both pairs) ≡ 2 * length pairs
  twice_as_many [] = refl
  twice_as_many (pair ∷ pairs) = let rest = twice_as_many pairs in omega arith

  pub one_more : (pairs : List (A × A)) (first second : A)
      → flat_map both (pairs ++ (first, second) ∷ []) ≡ flat_map both pairs ++ first ∷ second ∷ []
  one_more pairs first second = flat_map-append both pairs ((first, second) ∷ [])

  pub next_pair : (none : A) (pairs new : List (A × A)) (pair rest later words : List A)
      → flat_map both pairs ++ rest ≡ words
      → rest ≡ pair ++ later
      → length pair ≡ 2
      → new ≡ pairs ++ (slice_index_or pair 0 none, slice_index_or pair 1 none) ∷ []
      → flat_map both new ++ later ≡ words
  next_pair none pairs new pair rest later words before parts two more =
      rw (more, one_more pairs (slice_index_or pair 0 none) (slice_index_or pair 1 none), two_words none pair two)
      (append_assoc (flat_map both pairs) pair later ∙ ap (λ (t : List A). flat_map both pairs ++ t) (sym parts) ∙ before)

  -- while a pair is left, there is room for it
  pub has_room : (most : ℕ) (pairs : List (A × A)) (pair rest later words : List A)
      → flat_map both pairs ++ rest ≡ words
      → rest ≡ pair ++ later
      → length pair ≡ 2
      → length words ≤ 2 * most
      → length pairs < most
  has_room most pairs pair rest later words before parts two few =
      let all = ap length before in
      let left = ap length parts in
      let sum = length-append (flat_map both pairs) rest in
      let sum_left = length-append pair later in
      let double = twice_as_many pairs in
      omega arith

  -- of an even number of words less than two are none
  pub all_paired : (pairs : List (A × A)) (rest words : List A)
      → flat_map both pairs ++ rest ≡ words
      → length rest < 2
      → length words % 2 ≡ 0
      → flat_map both pairs ≡ words
  all_paired pairs rest words before few even =
      let all = ap length before in
      let sum = length-append (flat_map both pairs) rest in
      let double = twice_as_many pairs in
      let none : rest ≡ [] = nil_from_length rest (omega arith) in
      sym (append-nil (flat_map both pairs)) ∙ rw none at before
