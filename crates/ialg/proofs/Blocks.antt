-- What is read of a block after its words were written as a slice.
use Rattle.std.proofs.Common.{◌≡◌, ℕ, ◌+◌, ◌<◌, ◌≤◌, List, ◌++◌, ◌∷◌, [], length, take, drop, set, ap, ◌∙◌, arith, rules, append_assoc, length-set, length-take-le}
use Rattle.std.proofs.lemmas.List.{same_lists, places, take_at, take_more_set}
use Rattle.std.proofs.lemmas.Bool.{cases_lt}
use Rattle.std.specs.List.{refill}
use Rattle.arrayvec.specs.ArrayVec.{ArrayVec, array_vec_len, with_items}
use Rattle.arrayvec.proofs.ArrayVecLemmas.{items-with_items}

module _ {X : Type 0} where
  -- the first n of the words that were written over are the first n words, written over
  pub take-refill : (n : ℕ) (xs ws : List X) → n ≤ length xs
      → take n (refill (length xs) xs ws) ≡ refill (length (take n xs)) (take n xs) ws
  take-refill n xs ws le =
      let cut = length-take-le n xs le in
      same_lists _ _ (search (rules, places)) (λ k d h. grind (arith, places, cases_lt k (length ws)))

  -- a word that is put behind the first n of those that the slice shows is read behind them
  pub pushed : (words : ArrayVec X) (shown : List X) (n : ℕ) (x : X) → shown ≡ words.items → n < array_vec_len words
      → take (n + 1) (with_items words (set shown n x)).items ≡ take n words.items ++ x ∷ []
  pushed words shown n x all lt =
      ap (λ ws. take (n + 1) (with_items words (set ws n x)).items) all
      ∙ ap (take (n + 1)) (items-with_items words (set words.items n x) (length-set words.items n x))
      ∙ take_more_set words.items n x lt

  -- a block as long as the words that were written to the front of its room has these samples
  pub front_of_room : (block : ArrayVec X) (ys rest : List X) → length ys ≡ array_vec_len block
      → (with_items block (ys ++ rest)).items ≡ ys
  front_of_room block ys rest all =
      ap (take (array_vec_len block)) (append_assoc ys rest (drop (length (ys ++ rest)) block.items))
      ∙ take_at ys (rest ++ drop (length (ys ++ rest)) block.items) (array_vec_len block) all
