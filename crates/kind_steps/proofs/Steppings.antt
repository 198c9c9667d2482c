-- A run over a block goes on with the frames.
use Rattle.std.proofs.Common.{◌≡◌, ℕ, ℤ, suc, pos, ◌+◌, ◌-◌, ◌%◌, ◌<◌, ◌≤◌, ◌&&◌, ◌==◌, nat_le, Bool, true, false, IsTrue, List, [], ◌∷◌, ◌++◌, length, take, drop, slice_set, unsigned_abs, Some, FitsSigned, refl, sym, ap, ap₂, ◌∙◌, arith, append-nil}
use Rattle.std.proofs.Math.Nat.{suc-mod, mod_self, mod-eq_of_lt, zero-mod}
use Rattle.std.proofs.Math.Seq.{take-length, take-append_seam, drop-append_seam}
use Rattle.std.proofs.lemmas.List.{take_more_set, length-set}
use Rattle.std.proofs.lemmas.Nat.{mod_below}
use Rattle.std.proofs.lemmas.Bool.Decides.{nat_tests}
use Rattle.std.specs.Int.{w16}
use Rattle.mem_rec.specs.declared.TheConstants.{LEAST_ALIGNMENT}
use Rattle.std.proofs.lemmas.Bool.{and_parts}
use Rattle.ialg.specs.declared.TheConstants.{PARAMETER_WORDS}
use Rattle.ialg.specs.declared.filter.FilterMemory.{FilterMemory}
use Rattle.ialg.specs.History.{History, with_samples, samples_since_reset, word_at}
use Rattle.ialg.proofs.Tables.{chosen}
use Rattle.ialg.proofs.Histories.{words_fit}
use Rattle.kind_parts.proofs.Blocks.{GoesOn, one_goes_on, all_goes_on}
use Rattle.kind_steps.specs.declared.stepping.TheConstants.{HEAD, BEGUN}
use Rattle.kind_steps.specs.Steppings.{onto, given_at, gives_in_steps, are_parameters, stepping_memory, KeepsParameters, IsHeld, IsBehind, StepsOn, TakesSample}

-- which parameters are taken, and what is asked for then
pub record IsAsked (frame words : List ℤ → ℕ) (taken : List ℤ → Bool) (p : List ℤ) (m : FilterMemory) : Type 0 where
  pub takes : IsTrue (are_parameters taken p)
  pub memory : m ≡ record { kept = length p + (HEAD + (frame p + words p)); running = HEAD + (frame p + words p); align = LEAST_ALIGNMENT }

pub memory_some : (frame words : List ℤ → ℕ) (taken : List ℤ → Bool) (p : List ℤ) (m : FilterMemory) → stepping_memory frame words taken p ≡ Some m
    → IsAsked frame words taken p m
memory_some frame words taken p m e =
    let g = chosen (are_parameters taken p) (record { kept = length p + (HEAD + (frame p + words p)); running = HEAD + (frame p + words p); align = LEAST_ALIGNMENT }) m e in
    record { takes = g.0; memory = g.1 }

-- the kind takes them
pub kind_takes : (taken : List ℤ → Bool) (p : List ℤ) → IsTrue (are_parameters taken p) → IsTrue (taken p)
kind_takes taken p e = (and_parts (nat_le 1 (length p) && nat_le (length p) PARAMETER_WORDS) (taken p) e).1

-- one sample more onto older ones
pub onto_more : (ys : List ℤ) (x : ℤ) (xs : List ℤ) → onto (ys ++ x ∷ []) xs ≡ x ∷ onto ys xs
onto_more [] x xs = refl
onto_more (y ∷ ys) x xs = onto_more ys x (y ∷ xs)

-- what runs, as one value: how many samples wait, what is held, and the state
abbrev pub Running : Type 0
Running = ℕ × List ℤ × List ℤ

abbrev pub IsState : (List ℤ → ℕ) → (List ℤ → List ℤ → List ℤ) → List ℤ → History → Running → Type 0
IsState frame state_of p h s = IsHeld (frame p) (state_of p) (samples_since_reset h) s.0 s.1 s.2

-- a block was run, with the outputs ys
abbrev pub Gives : (List ℤ → ℕ) → (List ℤ → List ℤ → List ℤ) → (List ℤ → List ℤ → ℤ) → List ℤ → History → List ℤ → Running → List ℤ → Type 0
Gives frame state_of told p h block s ys = GoesOn (gives_in_steps frame told p) (IsState frame state_of p) h block s ys

module _ (frame : List ℤ → ℕ) (state_of : List ℤ → List ℤ → List ℤ) (told : List ℤ → List ℤ → ℤ) (p : List ℤ) (h : History) (xs : List ℤ) where
  -- one more sample
  pub gives_more : (i : ℕ) (s new : Running) (ys zs : List ℤ) → i < length xs → Gives frame state_of told p h (take i xs) s ys
      → TakesSample frame state_of told p s.0 s.1 s.2 (word_at xs i) new.0 new.1 new.2 ys zs → Gives frame state_of told p h (take (suc i) xs) new zs
  gives_more i s new ys zs b before takes =
      let t = with_samples h (take i xs) in
      let count = before.state.count in
      let next = takes (samples_since_reset t) before.state in
      one_goes_on Running (gives_in_steps frame told p) (IsState frame state_of p) h xs i s new ys zs b before
      (next.0, rw count at next.1)

  -- the whole block was run
  pub steps_on : (i k : ℕ) (held state : List ℤ) (new : Running) (ys : List ℤ) → i ≡ length xs → ((k : ℕ) → k < i → FitsSigned w16 (word_at xs k))
      → (IsHeld (frame p) (state_of p) (samples_since_reset h) k held state → Gives frame state_of told p h (take i xs) new ys)
      → StepsOn frame state_of told p h k held state xs new.0 new.1 new.2 ys
  steps_on i k held state new ys e fit gives =
      let all : IsHeld (frame p) (state_of p) (samples_since_reset h) k held state → Gives frame state_of told p h xs new ys =
      λ is. all_goes_on Running (gives_in_steps frame told p) (IsState frame state_of p) h xs i new ys e (gives is) in
      record { samples = words_fit xs (rw (← e) fit); state = λ is. (all is).state; outputs = λ is. (all is).outputs }

-- the parameters are what stands before the running words
pub before_running : (frame words : List ℤ → ℕ) (taken : List ℤ → Bool) (p kept running : List ℤ) → KeepsParameters frame words taken p kept
    → length running ≡ HEAD + (frame p + words p) → take (length kept - length running) kept ≡ p
before_running frame words taken p kept running keeps size =
    let long = keeps.size in
    let e : length kept - length running ≡ length p = omega arith in
    ap (λ n. take n kept) e ∙ keeps.same

same_test : (a b : ℕ) → a ≡ b → (a == b) ≡ true
same_test a b e = grind (arith, nat_tests)

other_test : (a b : ℕ) → (a ≡ b → ⊥) → (a == b) ≡ false
other_test a b ne = grind (arith, nat_tests)

module _ (n : ℕ) (state_of : List ℤ → List ℤ) (told : List ℤ → ℤ) (xs : List ℤ) (k : ℕ) (held ws : List ℤ) (x : ℤ) (size : length held ≡ n) (few : k < n)
    (is : IsHeld n state_of xs k held ws) where
  next_count : length (x ∷ xs) % n ≡ (k + 1) % n
  next_count = suc-mod (length xs) n ∙ ap (λ j. j % n) (omega arith) ∙ ap (λ j. (j + 1) % n) (sym is.count)

  next_samples : onto (take (k + 1) (slice_set held k x)) is.whole ≡ x ∷ xs
  next_samples =
      let more : take (k + 1) (slice_set held k x) ≡ take k held ++ x ∷ [] = take_more_set held k x (omega arith) in
      ap (λ t. onto t is.whole) more ∙ onto_more (take k held) x is.whole ∙ ap (λ t. x ∷ t) is.samples

  -- a sample that waits
  pub sample_waits : (ys : List ℤ) → k + 1 < n
      → IsHeld n state_of (x ∷ xs) (k + 1) (slice_set held k x) ws × (ys ++ given_at n k told (x ∷ xs) ≡ ys)
  sample_waits ys less = (
    record { whole = is.whole; count = sym (next_count ∙ mod-eq_of_lt less); samples = next_samples; state = is.state },
    rw (other_test (k + 1) n (λ e. omega arith)) (append-nil ys),
  )

  -- the last sample of a frame
  pub frame_ends : (new : List ℤ) (y : ℤ) (ys zs : List ℤ) → k + 1 ≡ n
      → ((us : List ℤ) → ws ≡ state_of us → new ≡ state_of (onto (slice_set held k x) us))
      → ((us : List ℤ) → ws ≡ state_of us → y ≡ told (onto (slice_set held k x) us)) → zs ≡ ys ++ y ∷ []
      → IsHeld n state_of (x ∷ xs) 0 (slice_set held k x) new × (ys ++ given_at n k told (x ∷ xs) ≡ zs)
  frame_ends new y ys zs e steps tells pushed =
      let l : length (slice_set held k x) ≡ length held = length-set held k x in
      let all : take (k + 1) (slice_set held k x) ≡ slice_set held k x =
      ap (λ j. take j (slice_set held k x)) (e ∙ sym size ∙ sym l) ∙ take-length (slice_set held k x) in
      let frame : onto (slice_set held k x) is.whole ≡ x ∷ xs = ap (λ t. onto t is.whole) (sym all) ∙ next_samples in
      let given : y ≡ told (x ∷ xs) = tells is.whole is.state ∙ ap told frame in (
        record {
          whole = x ∷ xs;
          count = sym (next_count ∙ ap (λ j. j % n) e ∙ mod_self n);
          samples = refl;
          state = steps is.whole is.state ∙ ap state_of frame;
        },
        rw (same_test (k + 1) n e) (ap (λ z. ys ++ z ∷ []) (sym given) ∙ sym pushed),
      )

module _ (n : ℕ) (state_of : List ℤ → List ℤ) (xs ws : List ℤ) (is : IsBehind n state_of xs ws) where
  -- how many samples wait
  pub waiting_is : (k : ℕ) → k ≡ unsigned_abs (word_at ws 1) → k ≡ length xs % n
  waiting_is k e = e ∙ ap unsigned_abs is.count

  pub waiting_few : (k : ℕ) → 1 ≤ n → k ≡ unsigned_abs (word_at ws 1) → k < n
  waiting_few k some e =
      let few = mod_below (length xs) n some in
      let count = waiting_is k e in
      omega arith

  -- words that begin, with the first state
  pub opened_fresh : (k : ℕ) (held state : List ℤ) → k ≡ unsigned_abs (word_at ws 1) → word_at ws 0 ≡ pos 0 → state ≡ state_of []
      → IsHeld n state_of xs k held state
  opened_fresh k held state ek e begun =
      let none = is.fresh e in
      let count = waiting_is k ek in
      let zero : k ≡ 0 = count ∙ ap (λ t. length t % n) none ∙ zero-mod n in
      record { whole = []; count = count; samples = ap (λ j. onto (take j held) []) zero ∙ sym none; state = begun }

  -- words that go on
  pub opened_begun : (k : ℕ) (held state : List ℤ) → k ≡ unsigned_abs (word_at ws 1) → (word_at ws 0 ≡ pos 0 → ⊥)
      → held ≡ take n (drop HEAD ws) → state ≡ drop n (drop HEAD ws) → IsHeld n state_of xs k held state
  opened_begun k held state ek ne eh es =
      let b = is.begun ne in
      let count = waiting_is k ek in
      record { whole = b.whole; count = count; samples = ap (λ t. onto t b.whole) (ap₂ take count eh) ∙ b.samples; state = es ∙ b.state }

-- what runs, as words
pub closed : (n : ℕ) (state_of : List ℤ → List ℤ) (xs : List ℤ) (k : ℕ) (held state : List ℤ) → length held ≡ n → IsHeld n state_of xs k held state
    → IsBehind n state_of xs (BEGUN ∷ pos k ∷ held ++ state)
closed n state_of xs k held state size is =
    let t : take n (held ++ state) ≡ held = ap (λ j. take j (held ++ state)) (sym size) ∙ take-append_seam held state in
    let d : drop n (held ++ state) ≡ state = ap (λ j. drop j (held ++ state)) (sym size) ∙ drop-append_seam held state in
    record {
      count = ap pos is.count;
      fresh = λ e. let one : 1 ≡ 0 = ap unsigned_abs e in absurd (omega arith);
      begun = λ ne. record { whole = is.whole; count = refl; samples = ap (λ l. onto l is.whole) (ap₂ take (sym is.count) t) ∙ is.samples; state = d ∙ is.state };
    }
