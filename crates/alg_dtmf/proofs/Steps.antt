-- A run over a block goes on with the frame.
use Rattle.std.proofs.Common.{◌≡◌, ℕ, ℤ, suc, pos, ◌+◌, ◌<◌, List, [], ◌∷◌, ◌++◌, length, take, unsigned_abs, FitsSigned, refl, sym, ap, ◌∙◌, arith, add-one}
use Rattle.std.specs.Int.{w16}
use Rattle.basic_op.specs.Operators.{add_of}
use Rattle.ialg.specs.History.{History, Sample, samples_since_reset, samples_in_frame, with_samples, word_at}
use Rattle.ialg.proofs.Histories.{words_fit}
use Rattle.kind_parts.specs.Frames.{frame_so_far}
use Rattle.kind_parts.specs.Words.{joined}
use Rattle.kind_parts.proofs.Blocks.{GoesOn, one_goes_on, all_goes_on}
use Rattle.kind_parts.proofs.Frames.{IsFrame, IsFinished, unfinished_frame, frame_goes_on}
use Rattle.kind_parts.proofs.Joining.{joined_parts}
use Rattle.alg_dtmf.specs.declared.kernel.Frame.{Frame}
use Rattle.alg_dtmf.specs.Equation.{frame_length, gain_of, energy_bits, with_square, energy_of, no_values, next_band, low_factors, high_factors, low_values, high_values, low_levels, high_levels, code_of, frame_code, dtmf_gives}
use Rattle.alg_dtmf.specs.declared.kernel.Band.{Band}
use Rattle.alg_dtmf.specs.Keeps.{frame_words, state_after, IsTuned, Ran}

-- a frame of these samples
pub record HasFrame (s : ℤ) (n : ℕ) (xs : List ℤ) (f : Frame) : Type 0 where
  pub samples : f.samples ≡ pos n
  pub energy : f.energy ≡ energy_of s xs
  pub low : f.low ≡ low_values s xs
  pub high : f.high ≡ high_values s xs

-- the frame after a history
abbrev pub IsDigits : List ℤ → History → Frame → Type 0
IsDigits p h s = IsFrame (HasFrame (word_at p 1)) (frame_length p) h s

-- one more sample, and what is told of a frame
pub record IsGrown (s x : ℤ) (f grown : Frame) : Type 0 where
  pub samples : grown.samples ≡ add_of f.samples (pos 1)
  pub energy : grown.energy ≡ with_square (energy_bits s) x f.energy
  pub low : grown.low ≡ next_band low_factors (gain_of s) x f.low
  pub high : grown.high ≡ next_band high_factors (gain_of s) x f.high

abbrev pub code_at : List ℤ → Frame → ℤ
code_at p f = code_of p f.energy (low_levels f.low) (high_levels f.high)

abbrev pub empty_frame : Frame
empty_frame = record { samples = pos 0; energy = pos 0; low = no_values; high = no_values }

told : (p xs : List ℤ) (n : ℕ) (f : Frame) → HasFrame (word_at p 1) n xs f → code_at p f ≡ frame_code p xs
told p xs n f is = rw (is.energy, is.low, is.high) refl

-- a block was run, with the outputs ys
abbrev pub Gives : List ℤ → History → List ℤ → Frame → List ℤ → Type 0
Gives p h block s ys = GoesOn (dtmf_gives p) (IsDigits p) h block s ys

one_more : (f : ℕ) → f < 127 → add_of (pos f) (pos 1) ≡ pos (f + 1)
one_more f b = ap pos (omega arith)

-- what comes of a frame with one more sample
pub record Finishes (p : List ℤ) (grown s : Frame) (ys zs : List ℤ) : Type 0 where
  pub full : grown.samples ≡ word_at p 0 → (s ≡ empty_frame) × (zs ≡ ys ++ code_at p grown ∷ [])
  pub unfinished : (grown.samples ≡ word_at p 0 → ⊥) → (s ≡ grown) × (zs ≡ ys)

-- the frame with one more sample has it first
grown_frame : (s x : ℤ) (n : ℕ) (xs : List ℤ) (f grown : Frame) → n < 127 → HasFrame s n (take n xs) f → IsGrown s x f grown
    → HasFrame s (n + 1) (take (n + 1) (x ∷ xs)) grown
grown_frame s x n xs f grown b is more = rw add-one (record {
  samples = more.samples ∙ ap (λ n. add_of n (pos 1)) is.samples ∙ one_more n b ∙ ap pos (omega arith);
  energy = more.energy ∙ ap (with_square (energy_bits s) x) is.energy;
  low = more.low ∙ ap (next_band low_factors (gain_of s) x) is.low;
  high = more.high ∙ ap (next_band high_factors (gain_of s) x) is.high;
})

no_frame : (s : ℤ) (xs : List ℤ) → HasFrame s 0 (take 0 xs) empty_frame
no_frame s xs = record { samples = refl; energy = refl; low = refl; high = refl }

pub gives_more : (p : List ℤ) (h : History) (xs ys zs : List ℤ) (i : ℕ) (s grown new : Frame) → i < length xs
    → IsTuned p → Gives p h (take i xs) s ys
    → IsGrown (word_at p 1) (word_at xs i) s grown → Finishes p grown new ys zs → Gives p h (take (suc i) xs) new zs
gives_more p h xs ys zs i s grown new b keeps before grows ends =
    let t = with_samples h (take i xs) in
    let n = frame_length p in
    let k = samples_in_frame n t in
    let x = word_at xs i in
    let shift = word_at p 1 in
    let few = keeps.few in
    let going = unfinished_frame n t keeps.some in
    let all = take (k + 1) (samples_since_reset (Sample x ∷ t)) in
    let has : HasFrame shift (k + 1) all grown = grown_frame shift x k (samples_since_reset t) s grown (omega arith) before.state grows in
    let ended : IsFinished n (frame_code p) empty_frame (k + 1) all grown new ys zs = record {
      full = λ e.
          let f = ends.full (has.samples ∙ ap pos e ∙ sym keeps.frame) in
          (f.0, f.1 ∙ ap (λ z. ys ++ z ∷ []) (told p all (k + 1) grown has));
      unfinished = λ ne. ends.unfinished (λ q. ne (ap unsigned_abs (sym has.samples ∙ q ∙ keeps.frame)));
    } in
    one_goes_on Frame (dtmf_gives p) (IsDigits p) h xs i s new ys zs b before
    (frame_goes_on Frame (HasFrame shift) n (frame_code p) empty_frame (no_frame shift) keeps.some t x grown new ys zs has ended)

-- the whole block was run
pub ran : (p : List ℤ) (h : History) (xs new ys : List ℤ) (i : ℕ) (s : Frame) → i ≡ length xs
    → ((k : ℕ) → k < i → FitsSigned w16 (word_at xs k)) → Gives p h (take i xs) s ys
    → new ≡ frame_words s.samples s.energy s.low s.high → Ran p h xs new ys
ran p h xs new ys i s e fit gives written =
    let all = all_goes_on Frame (dtmf_gives p) (IsDigits p) h xs i s ys e gives in
    let f = all.state in
    record {
      state = written ∙ rw (f.samples, f.energy, f.low, f.high) refl;
      samples = words_fit xs (rw (← e) fit);
      outputs = all.outputs;
    }

-- the words as a frame
pub record IsRead (words : List ℤ) (s : Frame) : Type 0 where
  pub samples : s.samples ≡ word_at words 0
  pub energy : s.energy ≡ joined (word_at words 1) (word_at words 2)
  pub low_a : s.low.a ≡ (word_at words 3, word_at words 4)
  pub low_b : s.low.b ≡ (word_at words 5, word_at words 6)
  pub low_c : s.low.c ≡ (word_at words 7, word_at words 8)
  pub low_d : s.low.d ≡ (word_at words 9, word_at words 10)
  pub high_a : s.high.a ≡ (word_at words 11, word_at words 12)
  pub high_b : s.high.b ≡ (word_at words 13, word_at words 14)
  pub high_c : s.high.c ≡ (word_at words 15, word_at words 16)
  pub high_d : s.high.d ≡ (word_at words 17, word_at words 18)

abbrev band_at : List ℤ → ℕ → Band
band_at t k = record { a = (word_at t k, word_at t (k + 1)); b = (word_at t (k + 2), word_at t (k + 3)); c = (word_at t (k + 4), word_at t (k + 5)); d = (word_at t (k + 6), word_at t (k + 7)) }

same_band : (v w : Band) → v.a ≡ w.a → v.b ≡ w.b → v.c ≡ w.c → v.d ≡ w.d → v ≡ w
same_band v w a b c d =
    let e : record { a = v.a; b = v.b; c = v.c; d = v.d } ≡ w = rw (a, b, c, d) refl in e

pub is_digits : (p : List ℤ) (h : History) (words : List ℤ) (s : Frame) → words ≡ state_after p h → IsRead words s → IsDigits p h s
is_digits p h words s e read = record {
  samples = read.samples ∙ ap (λ t. word_at t 0) e;
  energy = read.energy ∙ ap (λ t. joined (word_at t 1) (word_at t 2)) e ∙ joined_parts (energy_of (word_at p 1) (frame_so_far (frame_length p) h));
  low = same_band s.low (band_at words 3) read.low_a read.low_b read.low_c read.low_d ∙ ap (λ t. band_at t 3) e;
  high = same_band s.high (band_at words 11) read.high_a read.high_b read.high_c read.high_d ∙ ap (λ t. band_at t 11) e;
}
