-- Instances share a record where they are alike in it.
use Rattle.std.proofs.Common.{◌≡◌, ℕ, zero, suc, ℤ, ◌≤◌, Bool, true, false, IsTrue, List, length, Option, Some, None, refl, sym, ◌∙◌, ap, subst, arith}
use Rattle.std.specs.Prelude.{◌&&◌, ◌==◌}
use Rattle.std.specs.Cmp.Lexicographic.{pointwise}
use Rattle.std.specs.Ordering.{int_eq}
use Rattle.std.specs.Cmp.Rules.{signed_items}
use Rattle.std.proofs.lemmas.Bool.{true≢false, and_parts, and_from, and_right, eqb-true, eq-eqb}
use Rattle.std.proofs.lemmas.List.{get_or_past}
use Rattle.arrayvec.specs.ArrayVec.{ArrayVec}
use Rattle.mem_rec.specs.declared.MemRec.{MemRec}
use Rattle.mem_rec.specs.declared.Space.{Space}
use Rattle.mem_rec.specs.declared.Space.TheVariants.{Daram, Saram, External}
use Rattle.mem_rec.specs.declared.Attr.{Attr}
use Rattle.mem_rec.specs.declared.Attr.TheVariants.{Scratch, Persist, WriteOnce}
use Rattle.mem_rec.specs.Records.{is_table, same_space}
use Rattle.mem_rec.proofs.Valid.{within_limits}
use Rattle.ialg.proofs.Tables.{length-unplaced}
use Rattle.ialg.specs.Records.{record_at, unplaced}
use Rattle.lifecycle.specs.declared.instance.Instance.{Instance}
use Rattle.host_table.specs.Table.{unbased, AreAlike}
use Rattle.host_map.specs.Sharers.{Asked, is_once, is_same_once, is_sharer, sharer_of, asked}
use Rattle.host_shared.specs.Joining.{sharer_at}
use Rattle.mem_rec.specs.declared.TheConstants.{INSTANCES}
use Rattle.host_shared.specs.declared.joining.Sharers.{Sharers}
use Rattle.host_table.proofs.Finds.{find_nothing}
use Rattle.host_table.proofs.Held.{record_unplaced}

once_told : (a : Attr) → is_once a ≡ true → a ≡ WriteOnce
once_told Scratch told = absurd (true≢false (sym told))
once_told Persist told = absurd (true≢false (sym told))
once_told WriteOnce told = refl

space_told : (a b : Space) → same_space a b ≡ true → a ≡ b
space_told Daram Daram told = refl
space_told Daram Saram told = absurd (true≢false (sym told))
space_told Daram External told = absurd (true≢false (sym told))
space_told Saram Daram told = absurd (true≢false (sym told))
space_told Saram Saram told = refl
space_told Saram External told = absurd (true≢false (sym told))
space_told External Daram told = absurd (true≢false (sym told))
space_told External Saram told = absurd (true≢false (sym told))
space_told External External told = refl

pub space_itself : (a : Space) → same_space a a ≡ true
space_itself Daram = refl
space_itself Saram = refl
space_itself External = refl

-- what the test says of two records
pub record SameOnceRecord (r s : MemRec) : Type 0 where
  pub once : r.attr ≡ WriteOnce
  pub shape : unbased s ≡ unbased r

same_unbased : (r s : MemRec) → r.size ≡ s.size → r.align ≡ s.align → r.space ≡ s.space → r.attr ≡ s.attr → unbased s ≡ unbased r
same_unbased r s size align space attr =
    ap (λ n. let x : MemRec = record { size = n; align = s.align; space = s.space; attr = s.attr; base = 0 } in x) (sym size)
    ∙ ap (λ n. let x : MemRec = record { size = r.size; align = n; space = s.space; attr = s.attr; base = 0 } in x) (sym align)
    ∙ ap (λ a. let x : MemRec = record { size = r.size; align = r.align; space = a; attr = s.attr; base = 0 } in x) (sym space)
    ∙ ap (λ a. let x : MemRec = record { size = r.size; align = r.align; space = r.space; attr = a; base = 0 } in x) (sym attr)

pub same_once_tells : (r s : MemRec) → is_same_once r s ≡ true → SameOnceRecord r s
same_once_tells r s told =
    let all = and_parts (is_once r.attr && is_once s.attr && r.size == s.size && r.align == s.align) (same_space r.space s.space) told in
    let four = and_parts (is_once r.attr && is_once s.attr && r.size == s.size) (r.align == s.align) all.0 in
    let three = and_parts (is_once r.attr && is_once s.attr) (r.size == s.size) four.0 in
    let two = and_parts (is_once r.attr) (is_once s.attr) three.0 in
    let first = once_told r.attr two.0 in
    record {
      once = first;
      shape = same_unbased r s (eqb-true r.size s.size three.1) (eqb-true r.align s.align four.1) (space_told r.space s.space all.1) (first ∙ sym (once_told s.attr two.1));
    }

pub same_once_told : (r s : MemRec) → SameOnceRecord r s → is_same_once r s ≡ true
same_once_told r s same =
    let first : is_once r.attr ≡ true = rw same.once refl in
    let attr : s.attr ≡ WriteOnce = ap (λ (x : MemRec). x.attr) same.shape ∙ same.once in
    let second : is_once s.attr ≡ true = rw attr refl in
    let space : same_space r.space s.space ≡ true = subst (λ (x : Space). same_space r.space x ≡ true) (sym (ap (λ (x : MemRec). x.space) same.shape)) (space_itself r.space) in
    and_from _ _
    (and_from _ _ (and_from _ _ (and_from _ _ first second) (eq-eqb r.size s.size (sym (ap (λ (x : MemRec). x.size) same.shape)))) (eq-eqb r.align s.align (sym (ap (λ (x : MemRec). x.align) same.shape))))
    space

-- the bases don't matter
pub same_once_unplaced : (rs ss : List MemRec) (k : ℕ) → is_same_once (record_at (unplaced rs) k) (record_at (unplaced ss) k) ≡ is_same_once (record_at rs k) (record_at ss k)
same_once_unplaced rs ss k =
    ap (λ (x : MemRec). is_same_once x (record_at (unplaced ss) k)) (record_unplaced rs k)
    ∙ ap (λ (x : MemRec). is_same_once (record_at rs k) x) (record_unplaced ss k)

-- the test of two instances, where `same` tells which kinds are one
module _ {M : Type 0} (same : M → M → Bool) (one : (a b : M) → same a b ≡ true → a ≡ b) (itself : (a : M) → same a a ≡ true) where
  pub sharer_tells : (a b : Instance M) (k : ℕ) → is_sharer same (asked a.kind a.params.items a.table) k (Some (asked b.kind b.params.items b.table)) ≡ true → AreAlike k a b
  sharer_tells a b k told =
      let all = and_parts (same a.kind b.kind && pointwise int_eq a.params.items b.params.items) (is_same_once (record_at (unplaced a.table) k) (record_at (unplaced b.table) k)) told in
      let two = and_parts (same a.kind b.kind) (pointwise int_eq a.params.items b.params.items) all.0 in
      let records = same_once_tells (record_at a.table k) (record_at b.table k) (sym (same_once_unplaced a.table b.table k) ∙ all.1) in
      let items : a.params.items ≡ b.params.items = (signed_items a.params.items b.params.items).0 two.1 in
      record {
        kind = sym (one a.kind b.kind two.0);
        params = ap (λ (xs : List ℤ). let x : ArrayVec ℤ = record { items = xs } in x) (sym items);
        once = records.once;
        shape = records.shape;
      }

  pub sharer_told : (a b : Instance M) (k : ℕ) → AreAlike k a b → is_sharer same (asked a.kind a.params.items a.table) k (Some (asked b.kind b.params.items b.table)) ≡ true
  sharer_told a b k alike =
      let kinds : same a.kind b.kind ≡ true = subst (λ (x : M). same a.kind x ≡ true) (sym alike.kind) (itself a.kind) in
      let params : pointwise int_eq a.params.items b.params.items ≡ true = (signed_items a.params.items b.params.items).1 (ap (λ (x : ArrayVec ℤ). x.items) (sym alike.params)) in
      and_from _ _ (and_from _ _ kinds params) (same_once_unplaced a.table b.table k ∙ same_once_told (record_at a.table k) (record_at b.table k) (record { once = alike.once; shape = alike.shape }))

-- past a table there are no records, so no sharers
unlike_blank : (rs ss : List MemRec) (k : ℕ) → length rs ≤ k → is_same_once (record_at (unplaced rs) k) (record_at ss k) ≡ false
unlike_blank rs ss k past =
    let size : length (unplaced rs) ≤ k = omega (arith, past, length-unplaced rs) in
    ap (λ (x : MemRec). is_same_once x (record_at ss k)) (get_or_past (unplaced rs) k (record { size = 0; align = 0; space = Daram; attr = Scratch; base = 0 }) size)

no_sharer : {M : Type 0} (same : M → M → Bool) (kind : M) (params : List ℤ) (table : List MemRec) (k : ℕ) → length table ≤ k → (y : Option (Asked M)) → is_sharer same (asked kind params table) k y ≡ false
no_sharer same kind params table k past None = refl
no_sharer same kind params table k past (Some y) = and_right (same kind y.kind && pointwise int_eq params y.params) (is_same_once (record_at (unplaced table) k) (record_at y.table k)) (unlike_blank table y.table k past)

pub no_sharer_past : {M : Type 0} (same : M → M → Bool) (others : ℕ → Option (Asked M)) (kind : M) (params : List ℤ) (table : List MemRec) (k : ℕ) → IsTrue (is_table table) → 4 ≤ k
    → sharer_of same others (asked kind params table) k ≡ None
no_sharer_past same others kind params table k valid past =
    let few = (within_limits table valid).few in
    find_nothing (λ j. is_sharer same (asked kind params table) k (others j)) 0 INSTANCES (λ j low high. no_sharer same kind params table k (omega (arith, few, past)) (others j))

-- a record that isn't write-once has none
no_sharer_other : {M : Type 0} (same : M → M → Bool) (kind : M) (params : List ℤ) (table : List MemRec) (k : ℕ) → is_once (record_at table k).attr ≡ false → (y : Option (Asked M))
    → is_sharer same (asked kind params table) k y ≡ false
no_sharer_other same kind params table k other None = refl
no_sharer_other same kind params table k other (Some y) =
    let attr : is_once (record_at (unplaced table) k).attr ≡ false = ap (λ (x : MemRec). is_once x.attr) (record_unplaced table k) ∙ other in
    and_right (same kind y.kind && pointwise int_eq params y.params) (is_same_once (record_at (unplaced table) k) (record_at y.table k)) (rw attr refl)

pub none_of_other : {M : Type 0} (same : M → M → Bool) (others : ℕ → Option (Asked M)) (kind : M) (params : List ℤ) (table : List MemRec) (k : ℕ) → is_once (record_at table k).attr ≡ false
    → sharer_of same others (asked kind params table) k ≡ None
none_of_other same others kind params table k other =
    find_nothing (λ j. is_sharer same (asked kind params table) k (others j)) 0 INSTANCES (λ j low high. no_sharer_other same kind params table k other (others j))

pub four_sharers : (t : Sharers) (f : ℕ → Option ℕ) → t.t0 ≡ f 0 → t.t1 ≡ f 1 → t.t2 ≡ f 2 → t.t3 ≡ f 3 → ((k : ℕ) → 4 ≤ k → f k ≡ None) → (k : ℕ) → sharer_at t k ≡ f k
four_sharers t f e0 e1 e2 e3 past zero = e0
four_sharers t f e0 e1 e2 e3 past (suc zero) = e1
four_sharers t f e0 e1 e2 e3 past (suc (suc zero)) = e2
four_sharers t f e0 e1 e2 e3 past (suc (suc (suc zero))) = e3
four_sharers t f e0 e1 e2 e3 past (suc (suc (suc (suc k)))) = sym (past (suc (suc (suc (suc k)))) (omega arith))
