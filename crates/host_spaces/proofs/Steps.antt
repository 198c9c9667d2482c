-- What a creation needs, entry by entry.
use Rattle.std.proofs.Common.{◌≡◌, ◌⊎◌, inl, inr, ℕ, zero, suc, ◌+◌, ◌≤◌, ◌==◌, max, Bool, true, false, ◌&&◌, ◌||◌, if◌then◌else◌, IsTrue, List, [], ◌∷◌, ◌++◌, length, drop, nat_le, Option, Some, None, filter_map, is_some, refl, sym, ap, ◌∙◌, arith}
use Rattle.std.specs.Prelude.{slice_get, unwrap_or}
use Rattle.std.specs.List.{cons_option, enumerate_from}
use Rattle.std.proofs.lemmas.Bool.Decides.{nat_tests}
use Rattle.mem_rec.specs.declared.MemRec.{MemRec}
use Rattle.mem_rec.specs.declared.Space.{Space}
use Rattle.mem_rec.specs.declared.Space.TheVariants.{Daram, Saram, External}
use Rattle.mem_rec.specs.declared.Attr.{Attr}
use Rattle.mem_rec.specs.declared.Attr.TheVariants.{Persist, WriteOnce, Scratch as ScratchRecord}
use Rattle.mem_rec.specs.Records.{is_scratch, is_table, same_space}
use Rattle.mem_rec.specs.Layout.{scratch_align, scratch_need}
use Rattle.mem_rec.proofs.Valid.{within_limits}
use Rattle.relocate.specs.Places.{placed_size}
use Rattle.relocate.proofs.RangeTests.{true_or_false}
use Rattle.ialg.specs.Records.{record_at}
use Rattle.record_loans.specs.declared.block.ScratchBlock.{ScratchBlock}
use Rattle.record_loans.specs.Blocks.{block_align, block_piece}
use Rattle.scratch_group.specs.declared.group.Group.{Group}
use Rattle.scratch_group.specs.declared.group.Need.{Need}
use Rattle.scratch_group.specs.Blocks.{block_in, block_needed}
use Rattle.host_map.specs.declared.placed.Owner.{Owner}
use Rattle.host_map.specs.declared.placed.Owner.TheVariants.{Record, Scratch}
use Rattle.host_spaces.specs.Blocks.{block_of_piece}
use Rattle.host_map.specs.declared.parts.Wanted.{Wanted}
use Rattle.host_map.specs.declared.placed.Placed.{Placed}
use Rattle.host_map.specs.MemoryMap.{MemoryMap, all_spaces, blocks_in}
use Rattle.host_map.specs.Creation.{record_wanted, scratch_wanted, wanted_by}
use Rattle.host_map.proofs.BlockLemmas.{group_block_is}
use Rattle.host_spaces.specs.Pieces.{HasBlocks}
use Rattle.host_spaces.specs.Wants.{AreApartWants, block_need, count_in, need_wanted, one_in, somes, want_at, wants_of}

-- ---- whose each of them is

record_by : (a : Attr) (sharer : Option ℕ) (x v : Wanted) → (if is_scratch a || is_some sharer then None else Some x) ≡ Some v → x ≡ v
record_by ScratchRecord sharer x v e = absurd (let bad : None ≡ Some v = e in cc)
record_by Persist None x v e = let same : Some x ≡ Some v = e in cc
record_by Persist (Some sharer) x v e = absurd (let bad : None ≡ Some v = e in cc)
record_by WriteOnce None x v e = let same : Some x ≡ Some v = e in cc
record_by WriteOnce (Some sharer) x v e = absurd (let bad : None ≡ Some v = e in cc)

record_step : (sharers : ℕ → Option ℕ) (i k : ℕ) (r : MemRec) (v : Wanted) → record_wanted sharers i k r ≡ Some v → (v.owner ≡ Record i k) × (v.space ≡ r.space)
record_step sharers i k r v e =
    let is = record_by r.attr (sharers k) (record { space = r.space; owner = Record i k; size = placed_size r.size; align = r.align }) v e in
    (sym (ap (λ (w : Wanted). w.owner) is), sym (ap (λ (w : Wanted). w.space) is))

need_step : (g : ℕ) (space : Space) (n : Option Need) (v : Wanted) → need_wanted g space n ≡ Some v → (v.owner ≡ Scratch g) × (v.space ≡ space)
need_step g space None v e = absurd (let bad : None ≡ Some v = e in cc)
need_step g space (Some n) v e =
    let same : Some (record { space = space; owner = Scratch g; size = n.size; align = n.align }) ≡ Some v = e in
    let is : record { space = space; owner = Scratch g; size = n.size; align = n.align } ≡ v = cc in
    (sym (ap (λ (w : Wanted). w.owner) is), sym (ap (λ (w : Wanted). w.space) is))

-- the entry of an owner in a space
abbrev pub entry_of : Owner → Space → ℕ
entry_of (Record i zero) space = 0
entry_of (Record i (suc zero)) space = 1
entry_of (Record i (suc (suc zero))) space = 2
entry_of (Record i (suc (suc (suc zero)))) space = 3
entry_of (Record i (suc (suc (suc (suc k))))) space = suc (suc (suc (suc (suc (suc (suc k))))))
entry_of (Scratch g) Daram = 4
entry_of (Scratch g) Saram = 5
entry_of (Scratch g) External = 6

entry_is : (v : Wanted) (o : Owner) (space : Space) (n : ℕ) → v.owner ≡ o → v.space ≡ space → entry_of o space ≡ n → entry_of v.owner v.space ≡ n
entry_is v o space n owner there e = ap (λ x. entry_of x v.space) owner ∙ ap (entry_of o) there ∙ e

module _ (sharers : ℕ → Option ℕ) (i g : ℕ) (table : List MemRec) (group : Group) where
  abbrev pub wants : List (Option Wanted)
  wants = wants_of sharers i g table group

  pub owner_of_step : (j : ℕ) (v : Wanted) → want_at (wants_of sharers i g table group) j ≡ Some v → (v.owner ≡ Record i j) ⊎ (v.owner ≡ Scratch g)
  owner_of_step zero v e = inl (record_step sharers i 0 (record_at table 0) v e).0
  owner_of_step (suc zero) v e = inl (record_step sharers i 1 (record_at table 1) v e).0
  owner_of_step (suc (suc zero)) v e = inl (record_step sharers i 2 (record_at table 2) v e).0
  owner_of_step (suc (suc (suc zero))) v e = inl (record_step sharers i 3 (record_at table 3) v e).0
  owner_of_step (suc (suc (suc (suc zero)))) v e = inr (need_step g Daram (block_need table group Daram) v e).0
  owner_of_step (suc (suc (suc (suc (suc zero))))) v e = inr (need_step g Saram (block_need table group Saram) v e).0
  owner_of_step (suc (suc (suc (suc (suc (suc zero)))))) v e = inr (need_step g External (block_need table group External) v e).0
  owner_of_step (suc (suc (suc (suc (suc (suc (suc j))))))) v e = absurd (let bad : None ≡ Some v = e in cc)

  pub entry_of_step : (j : ℕ) (v : Wanted) → want_at (wants_of sharers i g table group) j ≡ Some v → entry_of v.owner v.space ≡ j
  entry_of_step zero v e = let s = record_step sharers i 0 (record_at table 0) v e in entry_is v (Record i 0) (record_at table 0).space 0 s.0 s.1 refl
  entry_of_step (suc zero) v e = let s = record_step sharers i 1 (record_at table 1) v e in entry_is v (Record i 1) (record_at table 1).space 1 s.0 s.1 refl
  entry_of_step (suc (suc zero)) v e = let s = record_step sharers i 2 (record_at table 2) v e in entry_is v (Record i 2) (record_at table 2).space 2 s.0 s.1 refl
  entry_of_step (suc (suc (suc zero))) v e = let s = record_step sharers i 3 (record_at table 3) v e in entry_is v (Record i 3) (record_at table 3).space 3 s.0 s.1 refl
  entry_of_step (suc (suc (suc (suc zero)))) v e = let s = need_step g Daram (block_need table group Daram) v e in entry_is v (Scratch g) Daram 4 s.0 s.1 refl
  entry_of_step (suc (suc (suc (suc (suc zero))))) v e = let s = need_step g Saram (block_need table group Saram) v e in entry_is v (Scratch g) Saram 5 s.0 s.1 refl
  entry_of_step (suc (suc (suc (suc (suc (suc zero)))))) v e = let s = need_step g External (block_need table group External) v e in entry_is v (Scratch g) External 6 s.0 s.1 refl
  entry_of_step (suc (suc (suc (suc (suc (suc (suc j))))))) v e = absurd (let bad : None ≡ Some v = e in cc)

  pub apart_wants : AreApartWants (wants_of sharers i g table group)
  apart_wants j l v u less at there space owner =
      let same : j ≡ l = sym (entry_of_step j v at) ∙ ap (λ o. entry_of o v.space) owner ∙ ap (entry_of u.owner) space ∙ entry_of_step l u there in omega arith

-- ---- how many there are in a space

one_at_most : (space : Space) (w : Option Wanted) → one_in space w ≤ 1
one_at_most space None = omega arith
one_at_most space (Some w) = elim (true_or_false (same_space w.space space)) [
  | inl is ↦ let e : one_in space (Some w) ≡ 1 = ap (λ t. if t then 1 else 0) is in omega arith
  | inr out ↦ let e : one_in space (Some w) ≡ 0 = ap (λ t. if t then 1 else 0) out in omega arith
]

abbrev one_if : Bool → ℕ
one_if t = if t then 1 else 0

need_there : (space there : Space) (g : ℕ) (n : Option Need) → one_in space (need_wanted g there n) ≤ one_if (same_space there space)
need_there space there g None = omega arith
need_there space there g (Some n) = omega arith

three_needs : (space : Space) → one_if (same_space Daram space) + (one_if (same_space Saram space) + one_if (same_space External space)) ≡ 1
three_needs Daram = refl
three_needs Saram = refl
three_needs External = refl

pub few_wants : (sharers : ℕ → Option ℕ) (i g : ℕ) (table : List MemRec) (group : Group) (space : Space) → count_in space (wants_of sharers i g table group) ≤ 5
few_wants sharers i g table group space =
    let a = one_at_most space (record_wanted sharers i 0 (record_at table 0)) in let b = one_at_most space (record_wanted sharers i 1 (record_at table 1)) in
    let c = one_at_most space (record_wanted sharers i 2 (record_at table 2)) in let d = one_at_most space (record_wanted sharers i 3 (record_at table 3)) in
    let x = need_there space Daram g (block_need table group Daram) in let y = need_there space Saram g (block_need table group Saram) in
    let z = need_there space External g (block_need table group External) in let three = three_needs space in omega arith

-- ---- they are what the definition says

last_option : (o : Option Wanted) (xs ys : List Wanted) → cons_option o (xs ++ ys) ≡ cons_option o xs ++ ys
last_option None xs ys = refl
last_option (Some w) xs ys = refl

-- what the records from number k on need
abbrev own : (ℕ → Option ℕ) → ℕ → ℕ → List MemRec → List Wanted
own sharers i k table = filter_map (λ (r : ℕ × MemRec). record_wanted sharers i r.0 r.1) (enumerate_from k table)

own_wants : (sharers : ℕ → Option ℕ) (i : ℕ) (table : List MemRec) (rest : List Wanted) → length table ≤ 4
    → cons_option (record_wanted sharers i 0 (record_at table 0)) (cons_option (record_wanted sharers i 1 (record_at table 1)) (cons_option (record_wanted sharers i 2 (record_at table 2)) (cons_option (record_wanted sharers i 3 (record_at table 3)) rest)))
    ≡ own sharers i 0 table ++ rest
own_wants sharers i [] rest few = refl
own_wants sharers i (a ∷ []) rest few = last_option (record_wanted sharers i 0 a) [] rest
own_wants sharers i (a ∷ b ∷ []) rest few =
    ap (cons_option (record_wanted sharers i 0 a)) (last_option (record_wanted sharers i 1 b) [] rest) ∙ last_option (record_wanted sharers i 0 a) (own sharers i 1 (b ∷ [])) rest
own_wants sharers i (a ∷ b ∷ c ∷ []) rest few =
    ap (λ ws. cons_option (record_wanted sharers i 0 a) (cons_option (record_wanted sharers i 1 b) ws)) (last_option (record_wanted sharers i 2 c) [] rest)
    ∙ ap (cons_option (record_wanted sharers i 0 a)) (last_option (record_wanted sharers i 1 b) (own sharers i 2 (c ∷ [])) rest)
    ∙ last_option (record_wanted sharers i 0 a) (own sharers i 1 (b ∷ c ∷ [])) rest
own_wants sharers i (a ∷ b ∷ c ∷ d ∷ []) rest few =
    ap (λ ws. cons_option (record_wanted sharers i 0 a) (cons_option (record_wanted sharers i 1 b) (cons_option (record_wanted sharers i 2 c) ws))) (last_option (record_wanted sharers i 3 d) [] rest)
    ∙ ap (λ ws. cons_option (record_wanted sharers i 0 a) (cons_option (record_wanted sharers i 1 b) ws)) (last_option (record_wanted sharers i 2 c) (own sharers i 3 (d ∷ [])) rest)
    ∙ ap (cons_option (record_wanted sharers i 0 a)) (last_option (record_wanted sharers i 1 b) (own sharers i 2 (c ∷ d ∷ [])) rest)
    ∙ last_option (record_wanted sharers i 0 a) (own sharers i 1 (b ∷ c ∷ d ∷ [])) rest
own_wants sharers i (a ∷ b ∷ c ∷ d ∷ e ∷ others) rest few = absurd (omega arith)

chosen : (t : Bool) (g : ℕ) (space : Space) (n : Need) → (if t then None else need_wanted g space (Some n)) ≡ need_wanted g space (if t then None else Some n)
chosen true g space n = refl
chosen false g space n = refl

above_none : (n : ℕ) → nat_le (suc n) 0 ≡ false
above_none n = grind (arith, nat_tests)

-- a block of no words serves where none are needed
none_serves : (need align : ℕ) → (need == 0 || nat_le need 0 && nat_le align 0) ≡ (need == 0 || false)
none_serves zero align = refl
none_serves (suc n) align = ap (λ t. suc n == 0 || t && nat_le align 0) (above_none n)

module _ (g : ℕ) (space : Space) (need align : ℕ) where
  -- what is needed over this block of the group
  abbrev over : Option Placed → Option Wanted
  over block =
      let old : Placed = unwrap_or block (record { owner = Scratch g; place = 0; size = 0; align = 0 }) in
      if need == 0 || nat_le need old.size && nat_le align old.align then None
      else Some (record { space = space; owner = Scratch g; size = max old.size need; align = max old.align align })

  wanted_here : (b : Option ScratchBlock) → over (slice_get (block_of_piece (Scratch g) (block_align b) (block_piece b)) 0) ≡ need_wanted g space (block_needed b need align)
  wanted_here None =
      ap (λ t. if t then None else need_wanted g space (Some (record { size = max 0 need; align = max 0 align }))) (none_serves need align)
      ∙ chosen (need == 0 || false) g space (record { size = max 0 need; align = max 0 align })
  wanted_here (Some b) =
      chosen (need == 0 || nat_le need (length b.piece.words) && nat_le align b.align) g space (record { size = max (length b.piece.words) need; align = max b.align align })

pub scratch_is : (map : MemoryMap) (g : ℕ) (table : List MemRec) (group : Group) → HasBlocks map g group → (space : Space)
    → scratch_wanted map g table space ≡ need_wanted g space (block_need table group space)
scratch_is map g table group has space =
    let need = scratch_need table space in let align = scratch_align table space in
    ap (over g space need align) (group_block_is g (blocks_in map space) ∙ ap (λ bs. slice_get bs 0) (has space))
    ∙ wanted_here g space need align (block_in group space)

pub wants_is : (sharers : ℕ → Option ℕ) (map : MemoryMap) (i g : ℕ) (table : List MemRec) (group : Group) → HasBlocks map g group → IsTrue (is_table table)
    → wanted_by sharers map i g table ≡ somes (drop 0 (wants_of sharers i g table group))
wants_is sharers map i g table group has t =
    let few = (within_limits table t).few in
    let rest : filter_map (scratch_wanted map g table) all_spaces
    ≡ cons_option (need_wanted g Daram (block_need table group Daram)) (cons_option (need_wanted g Saram (block_need table group Saram)) (cons_option (need_wanted g External (block_need table group External)) [])) =
    ap (λ o. cons_option o (cons_option (scratch_wanted map g table Saram) (cons_option (scratch_wanted map g table External) []))) (scratch_is map g table group has Daram)
    ∙ ap (λ o. cons_option (need_wanted g Daram (block_need table group Daram)) (cons_option o (cons_option (scratch_wanted map g table External) []))) (scratch_is map g table group has Saram)
    ∙ ap (λ o. cons_option (need_wanted g Daram (block_need table group Daram)) (cons_option (need_wanted g Saram (block_need table group Saram)) (cons_option o []))) (scratch_is map g table group has External) in
    ap (λ ws. own sharers i 0 table ++ ws) rest ∙ sym (own_wants sharers i table _ few)
