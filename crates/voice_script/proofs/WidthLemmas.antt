-- Bits of a mask, and the widths that they say.
use Rattle.std.proofs.Common.{◌≡◌, ◌<◌, ◌≤◌, ◌/◌, ◌%◌, ◌^◌, ◌+◌, ℕ, ap, sym, subst, ⊎_elim, arith}
use Rattle.std.specs.Prelude.{if◌then◌else◌}
use Rattle.std.proofs.Math.Nat.{pow-le-pow_right}
use Rattle.std.proofs.lemmas.Nat.{shr_below}
use Rattle.std.proofs.lemmas.Bool.Decides.{eqb_tells}
use Rattle.voice_script.specs.declared.width.Width.TheVariants.{Word, Octet}
use Rattle.voice_script.specs.Widths.{width_at}

pub word_where_unset : (mask channel : ℕ) → (mask / 2 ^ channel % 2 ≡ 1 → ⊥) → Word ≡ width_at mask channel
word_where_unset mask channel unset =
    ⊎_elim (λ set. absurd (unset set.1)) (λ apart. sym (ap (λ b. if b then Octet else Word) apart.0)) (eqb_tells (mask / 2 ^ channel % 2) 1)

-- a mask of 16 bits has none for channels of 16 and more
pub word_where_far : (mask channel : ℕ) → mask < 2 ^ 16 → 16 ≤ channel → Word ≡ width_at mask channel
word_where_far mask channel fits far =
    let wide : 2 ^ 16 ≤ 2 ^ channel = pow-le-pow_right {n = 2} (omega arith) far in
    let below : mask < 2 ^ channel = omega (arith, fits, wide) in
    let same : channel ≡ 0 + channel = omega arith in
    let none : mask / 2 ^ channel < 1 = shr_below mask 0 channel (subst (λ k. mask < 2 ^ k) same below) in
    word_where_unset mask channel (λ set. omega (arith, none, set))
