-- Blocks that were filled, and blocks that grow.
use Rattle.std.proofs.Common.{rules, ◌≡◌, ℕ, ℤ, Bool, true, false, length, Option, Some, None, refl, sym, subst}
use Rattle.std.specs.Prelude.{if◌then◌else◌, ◌||◌, replicate}
use Rattle.std.specs.List.{All}
use Rattle.std.proofs.lemmas.List.{length-replicate}
use Rattle.std.proofs.lemmas.List.Elements.{All-replicate}
use Rattle.mem_rec.specs.declared.Space.TheVariants.{Daram, Saram, External}
use Rattle.ialg.specs.Records.{ArePoison}
use Rattle.scratch_group.specs.declared.group.Need.{Need}
use Rattle.record_loans.specs.declared.block.ScratchBlock.{ScratchBlock}
use Rattle.scratch_group.specs.declared.group.Group.{Group}
use Rattle.record_loans.specs.Blocks.{block_words, IsSameBlock}
use Rattle.scratch_group.specs.Blocks.{filled, BlocksArePoison, SameGroup}

all_same : (v : ℤ) (n : ℕ) → All (λ x. x ≡ v) (replicate n v)
all_same v n = All-replicate (λ x. x ≡ v) n v refl

filled_is_poison : (v : ℤ) (b : Option ScratchBlock) → ArePoison (Some v) (block_words (filled v b))
filled_is_poison v None = search rules
filled_is_poison v (Some b) = all_same v (length b.piece.words)

one_filled : (v : ℤ) (b b' : Option ScratchBlock) → b' ≡ filled v b → ArePoison (Some v) (block_words b')
one_filled v b b' e = subst (λ (x : Option ScratchBlock). ArePoison (Some v) (block_words x)) (sym e) (filled_is_poison v b)

pub all_filled : (v : ℤ) (g g' : Group) → g'.daram ≡ filled v g.daram → g'.saram ≡ filled v g.saram → g'.external ≡ filled v g.external → BlocksArePoison (Some v) g'
all_filled v g g' d s e Daram = one_filled v g.daram g'.daram d
all_filled v g g' d s e Saram = one_filled v g.saram g'.saram s
all_filled v g g' d s e External = one_filled v g.external g'.external e

-- the blocks stay, but for their words

same_block : (v : ℤ) (b : Option ScratchBlock) → IsSameBlock b (filled v b)
same_block v None = (refl, refl)
same_block v (Some b) = ((refl, refl, length-replicate (length b.piece.words) v), refl)

one_same : (v : ℤ) (b b' : Option ScratchBlock) → b' ≡ filled v b → IsSameBlock b b'
one_same v b b' e = subst (λ (x : Option ScratchBlock). IsSameBlock b x) (sym e) (same_block v b)

pub same_filled : (v : ℤ) (g g' : Group) → g'.daram ≡ filled v g.daram → g'.saram ≡ filled v g.saram → g'.external ≡ filled v g.external
    → g'.active ≡ g.active → g'.activations ≡ g.activations → SameGroup g g'
same_filled v g g' d s e active activations = record {
  daram = one_same v g.daram g'.daram d;
  saram = one_same v g.saram g'.saram s;
  external = one_same v g.external g'.external e;
  active = active;
  activations = activations;
}

-- a block that is no smaller and no less aligned serves where the old one did

test_true : (t : Bool) (x : Need) → (if t then None else Some x) ≡ None → t ≡ true
test_true true x h = refl
test_true false x h = cc

no_block : (t : Bool) (x : Need) → t ≡ true → (if t then None else Some x) ≡ None
no_block true x h = refl
no_block false x h = cc

or_more : (t u : Bool) → (t || false) ≡ true → (t || u) ≡ true
or_more true u h = refl
or_more false u h = cc
