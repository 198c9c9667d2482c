-- The blocks of a group's owner, once the old one was taken out.
use Rattle.std.proofs.Common.{◌≡◌, ℕ, ℤ, ◌==◌, inl, inr, not, List, [], ◌∷◌, Option, Some, None, is_some, refl, sym, ◌∙◌, ap, subst, arith}
use Rattle.std.proofs.lemmas.Bool.{cases_lt, eq-eqb}
use Rattle.std.proofs.lemmas.Option.{none-some}
use Rattle.ialg.specs.Records.{ArePoison}
use Rattle.record_loans.specs.declared.block.ScratchBlock.{ScratchBlock}
use Rattle.record_loans.specs.Blocks.{block_align, block_piece, block_words, IsSameBlock}
use Rattle.host_map.specs.declared.placed.Owner.TheVariants.{Scratch}
use Rattle.host_map.specs.declared.placed.Placed.{Placed}
use Rattle.host_spaces.specs.Blocks.{block_of, block_of_piece, without_piece}
use Rattle.host_map.specs.Blocks.{owned, same_owner, with_block, without_at}
use Rattle.host_spaces.proofs.Orders.{AreSortedFrom, before, behind, dropped, is_other, kept, sorted_filter}
use Rattle.host_spaces.proofs.Owners.{filters}
use Rattle.host_spaces.specs.Pieces.{with_new}
use Rattle.host_instances.specs.Blocks.{newer, replaced_piece}

-- of two blocks, the one that begins at the place goes
one_left : (from : ℕ) (b o : Placed) → AreSortedFrom from (with_block b (o ∷ [])) → without_at o.place (with_block b (o ∷ [])) ≡ b ∷ []
one_left from b o are = elim (cases_lt o.place b.place) [
  | inl lt ↦
      ap (without_at o.place) (behind b o [] lt)
      ∙ dropped (λ c. not (c.place == o.place)) o (b ∷ []) (ap not (eq-eqb o.place o.place refl))
      ∙ kept (λ c. not (c.place == o.place)) b [] (ap not (is_other b.place o.place (λ same. omega arith)))
  | inr ge ↦
      let both = subst (AreSortedFrom from) (before b o [] ge) are in
      let more = both.1.0 in
      ap (without_at o.place) (before b o [] ge)
      ∙ kept (λ c. not (c.place == o.place)) b (o ∷ []) (ap not (is_other b.place o.place (λ same. omega arith)))
      ∙ ap (λ xs. b ∷ xs) (dropped (λ c. not (c.place == o.place)) o [] (ap not (eq-eqb o.place o.place refl)))
]

-- the group has the new block, or its old one
pub block_left : (from : ℕ) (bs : List Placed) (g : ℕ) (new old : Option ScratchBlock) → AreSortedFrom from bs
    → owned (Scratch g) bs ≡ with_new g new (block_of_piece (Scratch g) (block_align old) (block_piece old))
    → owned (Scratch g) (without_piece (replaced_piece new old) bs) ≡ block_of_piece (Scratch g) (block_align (newer new old)) (block_piece (newer new old))
block_left from bs g None old are is = is
block_left from bs g (Some b) None are is = is
block_left from bs g (Some b) (Some o) are is =
    filters (λ c. same_owner (Scratch g) c.owner) (λ c. not (c.place == o.piece.place)) bs
    ∙ ap (without_at o.piece.place) is
    ∙ one_left from (block_of (Scratch g) b.align b.piece) (block_of (Scratch g) o.align o.piece)
    (subst (AreSortedFrom from) is (sorted_filter (λ c. same_owner (Scratch g) c.owner) from bs are))

-- the words of the old block don't matter
pub replaced_same : (new b c : Option ScratchBlock) → IsSameBlock b c → is_some (replaced_piece new c) ≡ is_some (replaced_piece new b)
replaced_same None b c same = refl
replaced_same (Some n) None None same = refl
replaced_same (Some n) None (Some c) same = absurd (none-some _ (sym same.0))
replaced_same (Some n) (Some b) None same = absurd same.0
replaced_same (Some n) (Some b) (Some c) same = refl

pub without_same : (new b c : Option ScratchBlock) (bs : List Placed) → IsSameBlock b c → without_piece (replaced_piece new c) bs ≡ without_piece (replaced_piece new b) bs
without_same None b c bs same = refl
without_same (Some n) None None bs same = refl
without_same (Some n) None (Some c) bs same = absurd (none-some _ (sym same.0))
without_same (Some n) (Some b) None bs same = absurd same.0
without_same (Some n) (Some b) (Some c) bs same = ap (λ (place : ℕ). without_at place bs) same.0.1

pub newer_poison : (w : Option ℤ) (new old : Option ScratchBlock) → ArePoison w (block_words new) → ArePoison w (block_words old) → ArePoison w (block_words (newer new old))
newer_poison w None old here there = there
newer_poison w (Some b) old here there = here
