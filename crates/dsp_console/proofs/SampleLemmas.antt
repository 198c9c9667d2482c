-- Samples and octets.
use Rattle.std.proofs.Common.{◌≡◌, ◌<◌, ◌≤◌, ℕ, ℤ, suc, ◌+◌, ◌*◌, List, [], ◌∷◌, ◌++◌, length, map, take, get_or, set, refl, ap, sym, ◌∙◌, arith}
use Rattle.std.proofs.lemmas.List.{map-append, take_all, take_more, take_more_set}
use Rattle.std.specs.Int.{w16, cast_signed}
use Rattle.byteorder.specs.Endian.{little_number, IsReadBy}
use Rattle.console_spec.specs.Samples.{samples_of}

little_sample : (low high : ℕ) (rest : List ℕ) → little_number 2 (low ∷ high ∷ rest) ≡ low + 256 * high
little_sample low high rest = omega arith

pub read-samples : (octets : List ℕ) (samples : List ℤ) → length octets ≡ 2 * length samples
    → IsReadBy (λ ys. cast_signed w16 (little_number 2 ys)) 2 octets samples → samples ≡ samples_of octets
read-samples [] [] l r = refl
read-samples [] (x ∷ xs) l r = absurd (omega arith)
read-samples (low ∷ []) [] l r = refl
read-samples (low ∷ []) (x ∷ xs) l r = absurd (omega arith)
read-samples (low ∷ high ∷ octets) [] l r = absurd (omega arith)
read-samples (low ∷ high ∷ octets) (x ∷ xs) l r =
    let rest : xs ≡ samples_of octets = read-samples octets xs (omega arith) (λ d k h. let n : 2 * suc k ≡ suc (suc (2 * k)) = omega arith in rw n at (r d (suc k) (omega arith))) in
    let first : x ≡ cast_signed w16 (low + 256 * high) = r x 0 (omega arith) ∙ ap (cast_signed w16) (little_sample low high octets) in
    cc

-- ---- one octet a sample

pub one_more : {A B : Type 0} (f : A → B) (xs : List A) (ys : List B) (k : ℕ) (d : A) (y : B) → y ≡ f (get_or xs k d) → k < length xs → k < length ys
    → take k ys ≡ map f (take k xs) → take (k + 1) (set ys k y) ≡ map f (take (k + 1) xs)
one_more f xs ys k d y is there room e =
    take_more_set ys k y room ∙ ap (λ r. r ++ y ∷ []) e ∙ ap (λ v. map f (take k xs) ++ v ∷ []) is
    ∙ sym (map-append f (take k xs) (get_or xs k d ∷ [])) ∙ ap (map f) (sym (take_more xs k d there))

pub all_of_them : {A B : Type 0} (f : A → B) (xs : List A) (ys : List B) (k : ℕ) → length xs ≤ k → length ys ≤ k → take k ys ≡ map f (take k xs) → ys ≡ map f xs
all_of_them f xs ys k within within_too e = sym (take_all k ys within_too) ∙ e ∙ ap (map f) (take_all k xs within)
