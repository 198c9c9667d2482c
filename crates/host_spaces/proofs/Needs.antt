-- What the scratch records of a table need is within the limits of a block.
use Rattle.std.proofs.Common.{◌≡◌, ℕ, suc, ◌+◌, ◌*◌, ◌%◌, ◌==◌, ◌≤◌, ◌⊎◌, inl, inr, max, Bool, true, false, ◌&&◌, ◌||◌, IsTrue, List, [], ◌∷◌, length, filter, cond, nat_le, refl, sym, ap, subst, ◌∙◌, arith}
use Rattle.std.specs.List.{list_all, list_any}
use Rattle.std.specs.Int.{next_multiple_of}
use Rattle.std.proofs.lemmas.Bool.{cases_lt}
use Rattle.std.proofs.lemmas.Bool.Decides.{nat_tests}
use Rattle.mem_rec.specs.declared.MemRec.{MemRec}
use Rattle.mem_rec.specs.declared.Space.{Space}
use Rattle.mem_rec.specs.Records.{is_record, is_table, is_alignment, is_scratch, same_space}
use Rattle.mem_rec.specs.Layout.{scratch_records, end_from, align_from, scratch_need, scratch_align}
use Rattle.mem_rec.proofs.Valid.{within_limits}
use Rattle.relocate.specs.Places.{IsAlignment}

-- an alignment divides the limit of a record
pub record IsPower (a : ℕ) : Type 0 where
  pub align : IsAlignment a
  pub fits : (x m : ℕ) → x ≤ 65536 * m → next_multiple_of x a ≤ 65536 * m

abbrev Powers : List ℕ → Type 0
Powers [] = Unit {0}
Powers (a ∷ others) = IsPower a × Powers others

power_of : (n : ℕ) → IsAlignment n → ((x m : ℕ) → x ≤ 65536 * m → next_multiple_of x n ≤ 65536 * m) → IsPower n
power_of n align fits = record { align = align; fits = fits }

powers : Powers (4 ∷ 8 ∷ 16 ∷ 32 ∷ 64 ∷ 128 ∷ 256 ∷ 512 ∷ 1024 ∷ [])
powers = (
  power_of 4 (omega arith, omega arith, refl) (λ x m le. omega arith),
  (
    power_of 8 (omega arith, omega arith, refl) (λ x m le. omega arith),
    (
      power_of 16 (omega arith, omega arith, refl) (λ x m le. omega arith),
      (
        power_of 32 (omega arith, omega arith, refl) (λ x m le. omega arith),
        (
          power_of 64 (omega arith, omega arith, refl) (λ x m le. omega arith),
          (
            power_of 128 (omega arith, omega arith, refl) (λ x m le. omega arith),
            (
              power_of 256 (omega arith, omega arith, refl) (λ x m le. omega arith),
              (
                power_of 512 (omega arith, omega arith, refl) (λ x m le. omega arith),
                (
                  power_of 1024 (omega arith, omega arith, refl) (λ x m le. omega arith),
                  tt,
                ),
              ),
            ),
          ),
        ),
      ),
    ),
  ),
)

either : (b : Bool) → (b ≡ true) ⊎ (b ≡ false)
either true = inl refl
either false = inr refl

among : (xs : List ℕ) (a : ℕ) → Powers xs → list_any (λ b. b == a) xs ≡ true → IsPower a
among [] a all is = cc
among (x ∷ xs) a all is = elim (either (x == a)) [
  | inl same ↦ let e : x ≡ a = grind (arith, nat_tests) in subst (λ n. IsPower n) e all.0
  | inr other ↦ among xs a all.1 (sym (ap (λ b. b || list_any (λ c. c == a) xs) other) ∙ is)
]

pub power : (a : ℕ) → is_alignment a ≡ true → IsPower a
power a is = among (4 ∷ 8 ∷ 16 ∷ 32 ∷ 64 ∷ 128 ∷ 256 ∷ 512 ∷ 1024 ∷ []) a powers is

pub three : (a b c : Bool) → (a && b && c) ≡ true → (a ≡ true) × (b ≡ true) × (c ≡ true)
three true true true is = (refl, refl, refl)
three true true false is = cc
three true false c is = cc
three false b c is = cc

two : (a b : Bool) → (a && b) ≡ true → (a ≡ true) × (b ≡ true)
two true b is = (refl, is)
two false b is = cc

pub record_power : (r : MemRec) → is_record r ≡ true → IsPower r.align
record_power r valid = power r.align (three (nat_le 1 r.size) (nat_le r.size 65536) (is_alignment r.align) valid).2

pub size_bound : (r : MemRec) → is_record r ≡ true → r.size ≤ 65536
size_bound r valid = let le = (three (nat_le 1 r.size) (nat_le r.size 65536) (is_alignment r.align) valid).1 in grind (arith, nat_tests)

all_left : (p q : MemRec → Bool) (rs : List MemRec) → list_all p rs ≡ true → list_all p (filter q rs) ≡ true
all_left p q [] all = refl
all_left p q (r ∷ rs) all =
    let both = two (p r) (list_all p rs) all in let rest = all_left p q rs both.1 in
    elim (either (q r)) [
      | inl in_ ↦ ap (λ b. list_all p (cond b (r ∷ filter q rs) (filter q rs))) in_ ∙ ap (λ b. b && list_all p (filter q rs)) both.0 ∙ rest
      | inr out ↦ ap (λ b. list_all p (cond b (r ∷ filter q rs) (filter q rs))) out ∙ rest
    ]

few_left : (q : MemRec → Bool) (rs : List MemRec) → length (filter q rs) ≤ length rs
few_left q [] = omega arith
few_left q (r ∷ rs) =
    let rest = few_left q rs in
    elim (either (q r)) [
      | inl in_ ↦ let e : length (filter q (r ∷ rs)) ≡ suc (length (filter q rs)) = ap (λ b. length (cond b (r ∷ filter q rs) (filter q rs))) in_ in omega arith
      | inr out ↦ let e : length (filter q (r ∷ rs)) ≡ length (filter q rs) = ap (λ b. length (cond b (r ∷ filter q rs) (filter q rs))) out in omega arith
    ]

end_bound : (before m : ℕ) (rs : List MemRec) → list_all is_record rs ≡ true → before ≤ 65536 * m → end_from before rs ≤ 65536 * (m + length rs)
end_bound before m [] all le = let e : m + 0 ≡ m = omega arith in subst (λ n. before ≤ 65536 * n) (sym e) le
end_bound before m (r ∷ rs) all le =
    let both = two (is_record r) (list_all is_record rs) all in let fits = (record_power r both.0).fits before m le in let size = size_bound r both.0 in
    let next : next_multiple_of before r.align + r.size ≤ 65536 * suc m = omega arith in
    let e : suc m + length rs ≡ m + suc (length rs) = omega arith in
    subst (λ n. end_from (next_multiple_of before r.align + r.size) rs ≤ 65536 * n) e (end_bound (next_multiple_of before r.align + r.size) (suc m) rs both.1 next)

pub greater : (a b : ℕ) → IsAlignment a → IsAlignment b → IsAlignment (max a b)
greater a b first second = elim (cases_lt a b) [
  | inl lt ↦ let e : b ≡ max a b = omega arith in subst (λ n. IsAlignment n) e second
  | inr ge ↦ let e : a ≡ max a b = omega arith in subst (λ n. IsAlignment n) e first
]

align_bound : (least : ℕ) (rs : List MemRec) → IsAlignment least → list_all is_record rs ≡ true → IsAlignment (align_from least rs)
align_bound least [] is all = is
align_bound least (r ∷ rs) is all =
    let both = two (is_record r) (list_all is_record rs) all in align_bound (max least r.align) rs (greater least r.align is (record_power r both.0).align) both.1

-- the object is no scratch record
fewer : (table : List MemRec) (space : Space) → IsTrue (is_table table) → length (scratch_records table space) ≤ 3
fewer [] space t = omega arith
fewer (r ∷ rs) space t =
    let limits = within_limits (r ∷ rs) t in let few = limits.few in
    let out : (is_scratch r.attr && same_space r.space space) ≡ false = ap (λ b. b && same_space r.space space) (limits.object r) in
    let e : length (scratch_records (r ∷ rs) space) ≡ length (scratch_records rs space) =
    ap (λ b. length (cond b (r ∷ scratch_records rs space) (scratch_records rs space))) out in
    let rest = few_left (λ x. is_scratch x.attr && same_space x.space space) rs in omega arith

-- a size and an alignment that can be asked for, if there are some words
pub record AreLimits (words align : ℕ) : Type 0 where
  pub most : words ≤ 196608
  pub unit : words % 4 ≡ 0
  pub aligned : IsAlignment align

pub need_limits : (table : List MemRec) (space : Space) → IsTrue (is_table table) → AreLimits (scratch_need table space) (scratch_align table space)
need_limits table space t =
    let valid = (within_limits table t).valid in let rs = scratch_records table space in
    let all = all_left is_record (λ r. is_scratch r.attr && same_space r.space space) table valid in
    let few = fewer table space t in let end = end_bound 0 0 rs all (omega arith) in
    let low : end_from 0 rs ≤ 196608 = omega arith in
    record {
      most = omega arith;
      unit = omega arith;
      aligned = align_bound 4 rs (omega arith, omega arith, refl) all;
    }

pub greater_limits : (a b c d : ℕ) → AreLimits a b → AreLimits c d → AreLimits (max a c) (max b d)
greater_limits a b c d first second = record {
  most = (let f = first.most in let s = second.most in omega arith);
  unit = elim (cases_lt a c) [
    | inl lt ↦ let e : c ≡ max a c = omega arith in subst (λ n. n % 4 ≡ 0) e second.unit
    | inr ge ↦ let e : a ≡ max a c = omega arith in subst (λ n. n % 4 ≡ 0) e first.unit
  ];
  aligned = greater b d first.aligned second.aligned;
}
