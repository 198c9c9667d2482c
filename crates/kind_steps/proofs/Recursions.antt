-- A recursion over a block goes on with what each sample gives.
use Rattle.std.proofs.Common.{◌≡◌, ◌+◌, ◌-◌, ℕ, ℤ, suc, ◌<◌, List, [], ◌∷◌, ◌++◌, length, take, Option, Some, None, FitsSigned, refl, sym, ap, ◌∙◌, arith}
use Rattle.std.specs.Int.{w16}
use Rattle.mem_rec.specs.declared.TheConstants.{LEAST_ALIGNMENT}
use Rattle.ialg.specs.declared.filter.FilterMemory.{FilterMemory}
use Rattle.ialg.specs.History.{History, word_at}
use Rattle.ialg.proofs.Histories.{words_fit}
use Rattle.kind_parts.proofs.Blocks.{GoesOn, none_goes_on, one_goes_on, all_goes_on}
use Rattle.kind_steps.specs.Recursions.{state_after, gives_by_recursion, recursion_memory, KeepsTuning, RanByRecursion}

-- what the parameters name, and what is asked for then
pub record IsAsked {T : Type 0} (n : ℕ) (p : List ℤ) (named : Option T) (m : FilterMemory) : Type 0 where
  pub tuning : T
  pub is : named ≡ Some tuning
  pub memory : m ≡ record { kept = length p + n; running = n; align = LEAST_ALIGNMENT }

pub memory_some : {T : Type 0} (n : ℕ) (p : List ℤ) (named : Option T) (m : FilterMemory) → recursion_memory n p named ≡ Some m → IsAsked n p named m
memory_some n p (Some t) m e = record { tuning = t; is = refl; memory = sym cc }
memory_some n p None m e = cc

-- parameters name one tuning
pub same_tuning : {T : Type 0} (named : Option T) (a b : T) → named ≡ Some a → named ≡ Some b → a ≡ b
same_tuning named a b p q = cc

-- what stands before the running words in the kept ones are the parameters
pub before_state : {T : Type 0} (n : ℕ) (tuned : List ℤ → Option T) (p : List ℤ) (t : T) (kept running : List ℤ) → KeepsTuning n tuned p t kept → length running ≡ n
    → take (length kept - length running) kept ≡ p
before_state n tuned p t kept running keeps size =
    let e : length kept - length running ≡ length p =
    let whole = keeps.size in omega (arith, whole, size) in
    ap (λ m. take m kept) e ∙ keeps.parameters

module _ {T S : Type 0} (first : S) (taken : T → ℤ → S → S × ℤ) (t : T) where
  -- the state behind a history
  abbrev pub IsState : History → S → Type 0
  IsState h s = s ≡ state_after first taken t h

  -- a block was run, with the outputs ys
  abbrev pub Gives : History → List ℤ → S → List ℤ → Type 0
  Gives h block s ys = GoesOn (gives_by_recursion first taken t) IsState h block s ys

  -- before the first sample
  pub gives_none : (h : History) (xs : List ℤ) (s : S) → s ≡ state_after first taken t h → Gives h (take 0 xs) s []
  gives_none h xs s is = none_goes_on S (gives_by_recursion first taken t) IsState h xs s is

  -- one more sample
  pub gives_more : (h : History) (xs ys : List ℤ) (i : ℕ) (s : S) (after : S × ℤ) → i < length xs
      → Gives h (take i xs) s ys → after ≡ taken t (word_at xs i) s → Gives h (take (suc i) xs) after.0 (ys ++ after.1 ∷ [])
  gives_more h xs ys i s after b before value =
      let e = value ∙ ap (taken t (word_at xs i)) before.state in
      one_goes_on S (gives_by_recursion first taken t) IsState h xs i s after.0 ys (ys ++ after.1 ∷ []) b before
      (ap (λ (a : S × ℤ). a.0) e, ap (λ (a : S × ℤ). ys ++ a.1 ∷ []) (sym e))

  -- the whole block was run
  pub ran : (words_of : S → List ℤ) (h : History) (xs new ys : List ℤ) (i : ℕ) (s : S) → i ≡ length xs
      → ((k : ℕ) → k < i → FitsSigned w16 (word_at xs k)) → Gives h (take i xs) s ys → new ≡ words_of s → RanByRecursion first taken words_of t h xs new ys
  ran words_of h xs new ys i s e fit gives written =
      let all = all_goes_on S (gives_by_recursion first taken t) IsState h xs i s ys e gives in
      record {
        state = written ∙ ap words_of all.state;
        samples = words_fit xs (rw (← e) fit);
        outputs = all.outputs;
      }
