-- One limit in place of several.
use Rattle.std.proofs.Common.{◌≡◌, ℕ, ◌+◌, ◌-◌, ◌/◌, ◌≤ℤ◌, false, refl, ◌*◌, ◌^◌, ◌<◌, ◌≤◌, ℤ, pos, negsuc, ◌+ℤ◌, ◌-ℤ◌, ◌*ℤ◌, unsigned_abs, SFits, w16, sym, ap, ◌∙◌, arith}
use Rattle.std.specs.Int.{int_max, int_min}
use Rattle.std.specs.Int.Signed.{nat_abs-le}
use Rattle.std.proofs.lemmas.Int.{ints, unsigned_abs-mul}
use Rattle.std.proofs.lemmas.Nat.{mul-le}
use Rattle.std.proofs.Math.Nat.{div-le_of_le-mul}
use Rattle.std.proofs.Math.Pow.{pow_mono}
use lib.Signed.{shr_z}
use Rattle.std.specs.Int.Signed.{lt_z}
use Rattle.basic_op.specs.Operators.{floor_div, add_of, sub_of, shr_of, extract_h_of, l_shl_of, saturate16, saturate32}

pub small_product : (a b : ℤ) → SFits w16 a → SFits w16 b → unsigned_abs (a *ℤ b) ≤ 2 ^ 30
small_product a b p q =
    let h : unsigned_abs a * unsigned_abs b ≤ 32768 * 32768 = mul-le (unsigned_abs a) (unsigned_abs b) 32768 32768 (nat_abs-le a p.sfits) (nat_abs-le b q.sfits) in
    let s : unsigned_abs (a *ℤ b) ≡ unsigned_abs a * unsigned_abs b = unsigned_abs-mul a b in
    omega arith

pub shifted_small : (z : ℤ) → unsigned_abs z ≤ 2 ^ 30 → unsigned_abs (shr_z z 16384) ≤ 2 ^ 16
shifted_small (pos n) h = grind (arith, ints)
shifted_small (negsuc n) h = grind (arith, ints)

-- a factor times a quiet value, and what is left of it behind the shift
pub quiet_product : (a b : ℤ) → SFits w16 a → unsigned_abs b ≤ 8191 → unsigned_abs (a *ℤ b) ≤ 32768 * 8191
quiet_product a b p few =
    let h : unsigned_abs a * unsigned_abs b ≤ 32768 * 8191 = mul-le (unsigned_abs a) (unsigned_abs b) 32768 8191 (nat_abs-le a p.sfits) few in
    let s : unsigned_abs (a *ℤ b) ≡ unsigned_abs a * unsigned_abs b = unsigned_abs-mul a b in
    omega arith

pub shifted_quiet : (z : ℤ) → unsigned_abs z ≤ 32768 * 8191 → unsigned_abs (shr_z z 16384) ≤ 16382
shifted_quiet (pos n) h = grind (arith, ints)
shifted_quiet (negsuc n) h = grind (arith, ints)

-- the upper half of a product that is doubled and shifted, each time limited, is the product shifted to the right and limited once
pub one_limit : (z : ℤ) → unsigned_abs z ≤ 2 ^ 30 → saturate16 (shr_z z 16384) ≡ extract_h_of (l_shl_of (saturate32 (pos 2 *ℤ z)) (pos 1))
one_limit (pos n) h = grind (arith, ints)
one_limit (negsuc n) h = grind (arith, ints)

-- the nearest word, by its bounds
pub clamped : (z : ℤ) → int_max (negsuc 32767) (int_min z (pos 32767)) ≡ saturate16 z
clamped (pos n) = grind (arith, ints)
clamped (negsuc n) = grind (arith, ints)

-- a word needs no limit
pub unlimited : (z : ℤ) → SFits w16 z → saturate16 z ≡ z
unlimited (pos n) h = let f = h.sfits in grind (arith, ints)
unlimited (negsuc n) h = let f = h.sfits in grind (arith, ints)

-- steps that give words need no limits
pub no_limits : (x f v2 g : ℤ) → saturate16 f ≡ g → SFits w16 f → SFits w16 (x +ℤ f) → SFits w16 ((x +ℤ f) -ℤ v2)
    → (x +ℤ f) -ℤ v2 ≡ sub_of (add_of x g) v2
no_limits x f v2 g e first second third =
    sym (unlimited ((x +ℤ f) -ℤ v2) third)
    ∙ ap (λ t. sub_of t v2) (sym (unlimited (x +ℤ f) second)) ∙ ap (λ a. sub_of (add_of x a) v2) (sym (unlimited f first) ∙ e)

-- a shift by a count that isn't negative
pub shr_of-right : (x s : ℤ) → lt_z s (pos 0) ≡ false → shr_of x s ≡ floor_div x (2 ^ unsigned_abs s)
shr_of-right x (pos n) h = refl
shr_of-right x (negsuc n) h = cc

-- the samples before a frame's last one
pub before_last : (n m : ℕ) → n < m → m ≤ 1024 → n + (unsigned_abs (int_max (sub_of (pos m) (pos n)) (pos 1)) - 1) < m
before_last n m below few = grind (arith, ints)

-- a word that is shifted to the right by a bit or more
divided : (m n : ℕ) → m ≤ 32767 → 1 ≤ n → m / 2 ^ n ≤ 16384
divided m n few some =
    let two : 2 ^ 1 ≤ 2 ^ n = pow_mono some in
    let room : 2 * 16384 ≤ 2 ^ n * 16384 = mul-le 2 16384 (2 ^ n) 16384 two (omega arith) in
    div-le_of_le-mul (2 ^ n) (omega (arith, room))

pub shifted_half : (x s : ℤ) → SFits w16 x → pos 1 ≤ℤ s → unsigned_abs (shr_of x s) ≤ 16385
shifted_half (pos m) (pos n) f some = let few = f.sfits in let h = divided m n (omega (arith, few)) (omega (arith, ints, some)) in omega (arith, h)
shifted_half (negsuc m) (pos n) f some = let few = f.sfits in let h = divided m n (omega (arith, few)) (omega (arith, ints, some)) in omega (arith, h)
shifted_half x (negsuc n) f some = absurd (omega (arith, ints, some))
