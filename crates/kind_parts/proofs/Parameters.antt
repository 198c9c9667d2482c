-- What a test of parameters says.
use Rattle.std.proofs.Common.{◌≡◌, ℕ, ℤ, pos, negsuc, ◌≤◌, unsigned_abs, Bool, true, false, ◌&&◌, List, take, ◌<◌, refl, sym, ap, ◌∙◌, arith, get_or-take}
use Rattle.std.proofs.lemmas.Bool.Decides.{nat_tests}
use Rattle.ialg.specs.History.{word_at}
use Rattle.ialg.specs.Meaning.{is_between}

-- a word that is a count of at least one and at most m
pub record IsCount (m : ℕ) (z : ℤ) : Type 0 where
  pub some : 1 ≤ unsigned_abs z
  pub few : unsigned_abs z ≤ m
  pub natural : z ≡ pos (unsigned_abs z)

pub count_is : (m : ℕ) (z : ℤ) → is_between (pos 1) (pos m) z ≡ true → IsCount m z
count_is m (pos n) e =
    let b : (1 ≤ n) × (n ≤ m) = grind (arith, nat_tests, e) in
    record { some = b.0; few = b.1; natural = refl }
count_is m (negsuc n) e = cc
