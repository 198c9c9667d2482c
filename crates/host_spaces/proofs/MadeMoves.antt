-- A piece that is the block of the next move, and what its space keeps once the heap has lowered it.
use Rattle.std.proofs.Common.{◌≡◌, ◌≢◌, ℕ, suc, ◌+◌, ◌^◌, ◌<◌, ◌-◌, ◌==◌, min, if◌then◌else◌, List, [], ◌∷◌, ◌++◌, length, get_or, take, drop, Contains, Some, refl, sym, ◌∙◌, ap, subst, arith}
use Rattle.std.specs.Option.{option_map}
use Rattle.std.proofs.lemmas.List.Elements.{Contains-get_or}
use Rattle.space_raw.specs.Span.{Span}
use Rattle.relocate.specs.Places.{Range, lower_place, IsAlignment}
use Rattle.space_heap.specs.Maps.{HeapState, Holds, IsBlock, range_of}
use Rattle.relocate.specs.declared.packing.Move.{Move}
use Rattle.host_map.specs.declared.placed.Owner.{Owner}
use Rattle.host_map.specs.declared.placed.Owner.TheVariants.{Record}
use Rattle.host_map.specs.declared.placed.Placed.{Placed}
use Rattle.host_spaces.specs.Blocks.{Owns, block_of}
use Rattle.host_map.specs.Blocks.{block_range, owned, ranges}
use Rattle.host_spaces.proofs.BlockPlacing.{with_place}
use Rattle.host_map.specs.Moves.{moved, moved_by, moved_to, next_in}
use Rattle.host_map.proofs.MoveLemmas.{moved_is}
use Rattle.host_spaces.specs.Spaces.{AreKept}
use Rattle.host_spaces.proofs.Keeping.{its_block, kept_sorted, split_held}
use Rattle.host_spaces.proofs.Moving.{IsNext, counted_words, goes_to, is_lower, its_align, kept_moved}
use Rattle.host_spaces.proofs.Orders.{moved_from, same_index}
use Rattle.host_spaces.proofs.Owners.{others_moved, owned_moved}

abbrev blank : Placed
blank = record { owner = Record 0 0; place = 0; size = 0; align = 0 }

-- the piece stands among the blocks
pub next_there : (bs slice : List Placed) (s : Span) (place : ℕ) → IsNext bs s → slice ≡ bs → place ≡ s.place
    → (b : Placed) × Contains slice b × (b.place ≡ place)
next_there bs slice s place nx same at =
    let k = nx.move.index in let b = get_or bs k blank in
    subst (λ (xs : List Placed). (c : Placed) × Contains xs c × (c.place ≡ place)) (sym same)
    (b, Contains-get_or bs k blank nx.inside, ap (λ (r : Range). r.place) (nx.range blank) ∙ sym at)

module _ (heap : HeapState) (bs : List Placed) (kept : AreKept heap bs) (s : Span) (nx : IsNext bs s) (k : ℕ) (lt : k < length bs)
    (at : (d : Placed) → (get_or bs k d).place ≡ s.place) where
  abbrev m : Move
  m = nx.move

  abbrev b : Placed
  b = get_or bs nx.move.index blank

  abbrev front : List Range
  front = ranges (take nx.move.index bs)

  abbrev back : List Range
  back = ranges (drop (suc nx.move.index) bs)

  index_is : k ≡ nx.move.index
  index_is = same_index 0 bs k nx.move.index blank blank (kept_sorted heap bs kept) lt nx.inside (at blank ∙ sym (ap (λ (r : Range). r.place) (nx.range blank)))

  its : IsBlock heap.region.size (block_range (get_or bs nx.move.index blank))
  its = its_block heap heap refl refl bs kept nx.move.index blank nx.inside

  pub piece_block : IsBlock heap.region.size (range_of s)
  piece_block = subst (IsBlock heap.region.size) (nx.range blank) its

  module _ (a : ℕ) (align : (d : Placed) → a ≡ (get_or bs k d).align) where
    a_is : a ≡ (get_or bs nx.move.index blank).align
    a_is = align blank ∙ ap (λ n. (get_or bs n blank).align) index_is

    pub aligned : IsAlignment a
    aligned = subst IsAlignment (sym a_is) (its_align heap bs kept nx.move nx.next blank its.some)

    held : Holds heap (front ++ range_of s ∷ back)
    held = subst (λ r. Holds heap (front ++ r ∷ back)) (nx.range blank) (split_held heap heap refl refl bs kept nx.move.index blank nx.inside)

    module _ (new : HeapState) (r : Span) (words : r.words ≡ s.words) (same : new.region ≡ heap.region)
        (place : (before after : List Range) → Holds heap (before ++ range_of s ∷ after) → r.place ≡ lower_place (before ++ after) s.place a)
        (taken : (before after : List Range) → Holds heap (before ++ range_of s ∷ after) → Holds new (before ++ range_of r ∷ after))
        (slid : new.slid ≡ min (heap.slid + (if r.place == s.place then 0 else length s.words)) (2 ^ 64 - 1)) where
      pub goes : r.place ≡ nx.move.to
      goes =
          place front back held
          ∙ ap (λ p. lower_place (front ++ back) p a) (sym (ap (λ (q : Range). q.place) (nx.range blank)))
          ∙ ap (λ x. lower_place (front ++ back) (get_or bs nx.move.index blank).place x) a_is
          ∙ goes_to heap bs kept nx.move nx.next blank its.some

      lower : r.place < s.place
      lower =
          let lt = is_lower heap bs kept nx.move nx.next blank its.some in
          let at = ap (λ (q : Range). q.place) (nx.range blank) in let to = goes in omega arith

      pub counted : new.slid ≡ min (heap.slid + length s.words) (2 ^ 64 - 1)
      counted = counted_words r.place s.place heap.slid (length s.words) new.slid lower slid

      size_is : length r.words ≡ (get_or bs nx.move.index blank).size
      size_is = ap length words ∙ sym (ap (λ (q : Range). q.size) (nx.range blank))

      range_is : range_of r ≡ block_range (record (get_or bs nx.move.index blank) { place = nx.move.to })
      range_is =
          ap (λ n. let q : Range = record { place = n; size = length r.words } in q) goes
          ∙ ap (λ n. let q : Range = record { place = nx.move.to; size = n } in q) size_is

      same_move : moved_to bs k r.place ≡ moved_to bs nx.move.index nx.move.to
      same_move = ap (λ n. moved_to bs n r.place) index_is ∙ ap (λ n. moved_to bs nx.move.index n) goes

      pub kept_after : AreKept new (moved_to bs k r.place)
      kept_after =
          subst (λ xs. AreKept new xs) (sym same_move)
          (kept_moved heap bs kept nx.move nx.next blank its.some new same (let e = counted in omega arith)
          (subst (λ q. Holds new (front ++ q ∷ back)) range_is (taken front back held)))

      pub is_moved : moved_to bs k r.place ≡ moved bs
      is_moved = same_move ∙ sym (ap (λ o. moved_by o bs) nx.next) ∙ moved_is bs

      pub its_place : option_map (λ (x : Move). x.to) (next_in bs) ≡ Some r.place
      its_place = ap (option_map (λ (x : Move). x.to)) nx.next ∙ ap Some (sym goes)

      pub its_owner : (owner : Owner) (e : ℕ) → owned owner bs ≡ block_of owner e s ∷ [] → owned owner (moved_to bs k r.place) ≡ block_of owner e r ∷ []
      its_owner owner e one =
          ap (owned owner) (moved_from 0 bs k r.place blank (kept_sorted heap bs kept) lt ∙ ap (λ n. with_place n r.place bs) (at blank))
          ∙ owned_moved bs (block_of owner e s) r.place one
          ∙ ap (λ n. let c : Placed = record { owner = owner; place = r.place; size = n; align = e } in c ∷ []) (sym (ap length words))

      pub other_owners : (owner o : Owner) → Owns bs owner s → o ≢ owner → owned o (moved_to bs k r.place) ≡ owned o bs
      other_owners owner o it apart = others_moved 0 bs (kept_sorted heap bs kept) owner o s it k blank lt (at blank) apart r.place
