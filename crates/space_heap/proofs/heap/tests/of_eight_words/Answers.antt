-- The tag spells out one hole of 8 words.
use Rattle.std.proofs.Common.{◌≡◌, ℕ, ◌<◌, [], ◌∷◌, List, length, map, Option, None, Some, true, sym, subst, ap, arith, ◌∙◌, refl}
use Rattle.std.proofs.lemmas.List.{length-map}
use Rattle.std.specs.Prelude.{ℤ, pos, negsuc}
use Rattle.space_raw.specs.Slots.{IsRun, with_run}
use Rattle.space_raw.specs.Span.{Extent}
use Rattle.space_heap.specs.Holes.{AreWritten, between, in_rest}
use Rattle.space_heap.proofs.Counts.{all_there}
use Rattle.space_heap.proofs.MapLemmas.{same_marks}
use Rattle.space_heap.proofs.Returns.{one_hole}
use Rattle.space_heap.proofs.Words.{at_some, is_run, tag_first, tag_second, tag_rewrites}
use Rattle.space_heap.proofs.heap.tests.of_eight_words.Goals as goal

module _ (words : List ℤ) (long : length words ≡ 8) where
  abbrev all : List (Option ℤ)
  all = map Some words

  tag_there : IsRun all 0 2
  tag_there = let slots = length-map words Some in is_run all 0 2 (omega arith) (λ k low lt. at_some words k (omega arith))

  abbrev tagged : List (Option ℤ)
  tagged = with_run all 0 (pos 2 ∷ negsuc 0 ∷ [])

  eight : length tagged ≡ 8
  eight = (tag_rewrites all 0 (pos 2) (negsuc 0) tag_there).long ∙ length-map words Some ∙ long

  all_free : (k : ℕ) → k < 8 → in_rest tagged k ≡ true
  all_free k lt = (tag_rewrites all 0 (pos 2) (negsuc 0) tag_there).there k ∙ at_some words k (omega arith)

  written : AreWritten tagged (between 0 8) None
  written = (record { len = tag_first all 0 (pos 2) (negsuc 0) tag_there; next = tag_second all 0 (pos 2) (negsuc 0) tag_there }, tt)

pub set_tag-requires : goal.set_tag-requires
set_tag-requires c =
    let long : length c.args.all.words ≡ 8 = c.requires.whole.1.1 ∙ ap (λ (g : Extent). g.size) c.requires.whole.0 ∙ c.requires.whole.2 in
    record { there = subst (λ (ws : List (Option ℤ)). IsRun ws 0 2) (sym c.of-rest.ensures.words) (tag_there c.args.all.words long) }

module _ (c : goal.After-set_tag) where
  long : length c.args.all.words ≡ 8
  long = c.requires.whole.1.1 ∙ ap (λ (g : Extent). g.size) c.requires.whole.0 ∙ c.requires.whole.2

  slots : c.set_tag.new.self.slots ≡ tagged c.args.all.words long
  slots = c.set_tag.ensures.words ∙ ap (λ (ws : List (Option ℤ)). with_run ws 0 (pos 2 ∷ negsuc 0 ∷ [])) c.of-rest.ensures.words

  free : (k : ℕ) → k < 8 → in_rest c.set_tag.new.self.slots k ≡ true
  free k lt = ap (λ (ws : List (Option ℤ)). in_rest ws k) slots ∙ all_free c.args.all.words long k lt

  as_long : length c.set_tag.new.self.slots ≡ 8
  as_long = ap length slots ∙ eight c.args.all.words long

pub invariant_of-result : goal.invariant_of-result
invariant_of-result c = let eight = as_long c in record {
  owner = c.set_tag.ensures.region ∙ c.of-rest.ensures.region ∙ c.requires.whole.0;
  same_size = sym c.requires.whole.2;
  long = as_long c ∙ sym c.requires.whole.2;
  holes = one_hole c.set_tag.new.self.slots 8 (Some 0) (as_long c) (omega arith, refl) (free c)
      (subst (λ (ws : List (Option ℤ)). AreWritten ws (between 0 8) None) (sym (slots c)) (written c.args.all.words (long c))) refl;
  counted = sym (all_there c.set_tag.new.self.slots (λ k lt. free c k (omega arith)) ∙ as_long c);
}

pub returns : goal.returns
returns c = let eight = c.requires.whole.2 in record {
  free = (
    refl,
    record {
      placed = tt;
      free = same_marks c.args.region.size c.set_tag.new.self.slots [] (as_long c ∙ sym c.requires.whole.2) (λ k lt. free c k (omega arith));
    },
  );
}
