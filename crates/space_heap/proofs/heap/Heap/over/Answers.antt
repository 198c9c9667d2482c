-- One hole is all of the space, and no block is taken.
use Rattle.std.proofs.Common.{◌≡◌, ℕ, ◌<◌, [], List, length, Option, Some, true, replicate, pos, sym, ap, arith, ◌∙◌}
use Rattle.std.proofs.lemmas.List.{length-map, length-replicate}
use Rattle.std.specs.Prelude.{ℤ}
use Rattle.space_heap.specs.Holes.{in_rest}
use Rattle.space_heap.proofs.Counts.{all_there}
use Rattle.space_heap.proofs.MapLemmas.{same_marks}
use Rattle.space_heap.proofs.Returns.{one_hole}
use Rattle.space_heap.proofs.Words.{at_some}
use Rattle.space_heap.proofs.heap.Heap.over.Given.{Over}
use Rattle.space_heap.proofs.heap.Heap.over.Goals as goal

-- each of the words is 0
module _ (g : Over) (n : ℕ) where
  abbrev zeros : List ℤ
  zeros = replicate n (pos 0)

  long_zeros : length zeros ≡ n
  long_zeros = length-replicate n (pos 0)

pub leave_hole-first-requires-clause-there : goal.leave_hole-first-requires-clause-there
leave_hole-first-requires-clause-there g c = λ k low high.
    let n = c.args.size in ap (λ (ws : List (Option ℤ)). in_rest ws k) c.requires.free ∙ at_some (zeros g n) k (omega (arith, long_zeros g n))

-- the new rest has every word
module _ (g : Over) (c : goal.After-leave_hole-first g) where
  abbrev rest : List (Option ℤ)
  rest = c.leave_hole-first.new.rest.slots

  size : c.args.size ≡ c.args.region.size
  size = sym c.requires.whole.1

  long : length rest ≡ c.args.size
  long = c.leave_hole-first.ensures.others.1.long ∙ ap length c.requires.free ∙ length-map (zeros g c.args.size) Some ∙ long_zeros g c.args.size

  all_free : (k : ℕ) → k < c.args.size → in_rest rest k ≡ true
  all_free k lt =
      let same = long_zeros g c.args.size in
      c.leave_hole-first.ensures.others.1.there k ∙ ap (λ (ws : List (Option ℤ)). in_rest ws k) c.requires.free ∙ at_some (zeros g c.args.size) k (omega arith)

pub invariant_of-result : goal.invariant_of-result
invariant_of-result g c = let same = long g c in record {
  owner = c.leave_hole-first.ensures.others.0 ∙ c.requires.whole.0;
  same_size = size g c;
  long = long g c ∙ size g c;
  holes = one_hole (rest g c) c.args.size c.leave_hole-first.result (long g c) c.requires.whole.2 (all_free g c) c.leave_hole-first.ensures.written c.leave_hole-first.ensures.start;
  counted = sym (all_there (rest g c) (λ k lt. all_free g c k (omega arith)) ∙ long g c);
}

pub returns-clause-taken : goal.returns-clause-taken
returns-clause-taken g c = let same = size g c in record {
  placed = tt;
  free = same_marks c.args.region.size (rest g c) [] (long g c ∙ size g c) (λ k lt. all_free g c k (omega arith));
}
