-- A run over a block goes on with the frame.
use Rattle.std.proofs.Common.{◌≡◌, ℕ, ℤ, suc, pos, ◌+◌, ◌-◌, ◌<◌, ◌&&◌, nat_le, Bool, IsTrue, List, [], ◌∷◌, ◌++◌, length, take, unsigned_abs, Some, replicate, FitsSigned, refl, sym, ap, ◌∙◌, arith, add-one}
use Rattle.std.proofs.lemmas.Bool.{and_parts}
use Rattle.std.specs.Int.{w16}
use Rattle.mem_rec.specs.declared.TheConstants.{LEAST_ALIGNMENT}
use Rattle.ialg.specs.declared.TheConstants.{PARAMETER_WORDS}
use Rattle.ialg.specs.declared.filter.FilterMemory.{FilterMemory}
use Rattle.ialg.specs.History.{History, Sample, samples_since_reset, samples_in_frame, with_samples, word_at}
use Rattle.ialg.proofs.Tables.{chosen}
use Rattle.ialg.proofs.Histories.{all_zero, words_fit}
use Rattle.kind_parts.specs.declared.framing.TheConstants.{COUNT, MOST_FRAME}
use Rattle.ialg.specs.Meaning.{is_between}
use Rattle.kind_parts.specs.Frames.{frame_so_far}
use Rattle.kind_parts.specs.Framings.{frame_length, gives_in_frames, are_parameters, framing_memory, counted, state_after, KeepsParameters, FramesOn}
use Rattle.kind_parts.proofs.Blocks.{GoesOn, one_goes_on, all_goes_on}
use Rattle.kind_parts.proofs.Frames.{IsFinished, unfinished_frame, no_samples, frame_goes_on}
use Rattle.kind_parts.proofs.Parameters.{IsCount, count_is}

-- which parameters are taken, and what is asked for then
pub record IsAsked (words : ℕ) (taken : List ℤ → Bool) (p : List ℤ) (m : FilterMemory) : Type 0 where
  pub takes : IsTrue (are_parameters taken p)
  pub memory : m ≡ record { kept = length p + (COUNT + words); running = COUNT + words; align = LEAST_ALIGNMENT }

pub memory_some : (words : ℕ) (taken : List ℤ → Bool) (p : List ℤ) (m : FilterMemory) → framing_memory words taken p ≡ Some m → IsAsked words taken p m
memory_some words taken p m e =
    let g = chosen (are_parameters taken p) (record { kept = length p + (COUNT + words); running = COUNT + words; align = LEAST_ALIGNMENT }) m e in
    record { takes = g.0; memory = g.1 }

-- the length of a frame
pub length_is : (taken : List ℤ → Bool) (p : List ℤ) → IsTrue (are_parameters taken p) → IsCount 32767 (word_at p 0)
length_is taken p e =
    let few = nat_le 1 (length p) && nat_le (length p) PARAMETER_WORDS in
    let b = is_between (pos 1) MOST_FRAME (word_at p 0) in
    count_is 32767 (word_at p 0) (and_parts few b (and_parts (few && b) (taken p) e).0).1

module _ (state_of : List ℤ → List ℤ → List ℤ) (words : ℕ) (begins : (p : List ℤ) → state_of p [] ≡ replicate words (pos 0)) where
  -- words of 0 are a frame without samples
  pub empty_frame : (p ws : List ℤ) → length ws ≡ COUNT + words → ((k : ℕ) → word_at ws k ≡ pos 0) → ws ≡ counted state_of p 0 []
  empty_frame p ws size zeros =
      let all : ws ≡ replicate (suc words) (pos 0) = all_zero (suc words) ws (omega arith) zeros in
      all ∙ ap (λ t. pos 0 ∷ t) (sym (begins p))

-- the state before a sample
pub no_state : (state_of : List ℤ → List ℤ → List ℤ) (p : List ℤ) → counted state_of p 0 [] ≡ state_after state_of p []
no_state state_of p = ap (λ k. counted state_of p k (take k [])) (sym (no_samples (frame_length p)))

one_more : (k : ℕ) (x : ℤ) (xs : List ℤ) → take (k + 1) (x ∷ xs) ≡ x ∷ take k xs
one_more k x xs = rw add-one refl

-- a block was run, with the outputs ys
abbrev pub Gives : (List ℤ → List ℤ → List ℤ) → (List ℤ → List ℤ → ℤ) → List ℤ → History → List ℤ → List ℤ → List ℤ → Type 0
Gives state_of told p h block s ys = GoesOn (gives_in_frames told p) (λ t s. s ≡ state_after state_of p t) h block s ys

module _ (state_of : List ℤ → List ℤ → List ℤ) (told : List ℤ → List ℤ → ℤ) (p : List ℤ) (frame : IsCount 32767 (word_at p 0)) (h : History) (xs : List ℤ) where
  -- one more sample: it grows the frame, which is then told of or goes on
  pub gives_more : (i : ℕ) (s grown new ys zs : List ℤ) → i < length xs → Gives state_of told p h (take i xs) s ys
      → ((k : ℕ) (us : List ℤ) → k < 32767 → s ≡ counted state_of p k us → grown ≡ counted state_of p (k + 1) (word_at xs i ∷ us))
      → ((k : ℕ) (us : List ℤ) → grown ≡ counted state_of p k us → pos k ≡ word_at p 0 → (new ≡ counted state_of p 0 []) × (zs ≡ ys ++ told p us ∷ []))
      → ((k : ℕ) (us : List ℤ) → grown ≡ counted state_of p k us → (pos k ≡ word_at p 0 → ⊥) → (new ≡ grown) × (zs ≡ ys))
      → Gives state_of told p h (take (suc i) xs) new zs
  gives_more i s grown new ys zs b before grows full unfinished =
      let t = with_samples h (take i xs) in
      let n = frame_length p in
      let k = samples_in_frame n t in
      let x = word_at xs i in
      let few = frame.few in
      let going = unfinished_frame n t frame.some in
      let all = take (k + 1) (samples_since_reset (Sample x ∷ t)) in
      let has : grown ≡ counted state_of p (k + 1) all =
      grows k (frame_so_far n t) (omega arith) before.state ∙ ap (λ l. counted state_of p (k + 1) l) (sym (one_more k x (samples_since_reset t))) in
      let ended : IsFinished n (told p) (counted state_of p 0 []) (k + 1) all grown new ys zs = record {
        full = λ e. full (k + 1) all has (ap pos e ∙ sym frame.natural);
        unfinished = λ ne. unfinished (k + 1) all has (λ q. ne (ap unsigned_abs (q ∙ frame.natural)));
      } in
      one_goes_on (List ℤ) (gives_in_frames told p) (λ t s. s ≡ state_after state_of p t) h xs i s new ys zs b before
      (frame_goes_on (List ℤ) (λ k us s. s ≡ counted state_of p k us) n (told p) (counted state_of p 0 []) (λ us. refl) frame.some t x grown new ys zs has ended)

  -- the whole block was run
  pub frames_on : (i : ℕ) (old new ys : List ℤ) → i ≡ length xs → ((k : ℕ) → k < i → FitsSigned w16 (word_at xs k))
      → (old ≡ state_after state_of p h → Gives state_of told p h (take i xs) new ys) → FramesOn state_of told p h old xs new ys
  frames_on i old new ys e fit gives =
      let all : old ≡ state_after state_of p h → Gives state_of told p h xs new ys =
      λ is. all_goes_on (List ℤ) (gives_in_frames told p) (λ t s. s ≡ state_after state_of p t) h xs i new ys e (gives is) in
      record { samples = words_fit xs (rw (← e) fit); state = λ is. (all is).state; outputs = λ is. (all is).outputs }

-- the parameters are what stands before the running words
pub before_running : (words : ℕ) (taken : List ℤ → Bool) (p kept running : List ℤ) → KeepsParameters words taken p kept → length running ≡ COUNT + words
    → take (length kept - length running) kept ≡ p
before_running words taken p kept running keeps size =
    let long = keeps.size in
    let e : length kept - length running ≡ length p = omega arith in
    ap (λ n. take n kept) e ∙ keeps.same
