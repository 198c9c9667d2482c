-- What a detector asks for, and what its words keep after a control or a block.
use Rattle.std.proofs.Common.{◌≡◌, ℤ, pos, ◌+◌, ◌≤◌, unsigned_abs, ◌==◌, ◌&&◌, List, [], ◌∷◌, length, take, Some, sym, ap, arith}
use Rattle.std.proofs.lemmas.Bool.{and_parts}
use Rattle.std.proofs.lemmas.Bool.Decides.{nat_tests}
use Rattle.mem_rec.specs.declared.TheConstants.{LEAST_ALIGNMENT}
use Rattle.ialg.specs.declared.filter.FilterMemory.{FilterMemory}
use Rattle.ialg.specs.History.{History, with_samples, word_at}
use Rattle.ialg.proofs.Tables.{chosen}
use Rattle.ialg.proofs.Histories.{IsWordHistory-with_samples}
use Rattle.ialg.specs.Meaning.{is_between}
use Rattle.kind_parts.proofs.Frames.{no_samples}
use Rattle.kind_parts.proofs.Parameters.{count_is}
use Rattle.alg_dtmf.specs.declared.TheConstants.{PARAMETERS, STATE_WORDS, FRAME_SAMPLES, MOST_SHIFT}
use Rattle.alg_dtmf.specs.Equation.{frame_length, energy_of, low_values, high_values}
use Rattle.alg_dtmf.specs.Keeps.{frame_words, state_after, Ran, Runs}
use Rattle.alg_dtmf.specs.Meaning.{dtmf_memory}

-- which parameters are taken, and what is asked for then
pub record IsAsked (p : List ℤ) (m : FilterMemory) : Type 0 where
  pub seven : length p ≡ PARAMETERS
  pub some : 1 ≤ frame_length p
  pub few : frame_length p ≤ unsigned_abs FRAME_SAMPLES
  pub frame : word_at p 0 ≡ pos (frame_length p)
  pub memory : m ≡ record { kept = PARAMETERS + STATE_WORDS; running = STATE_WORDS; align = LEAST_ALIGNMENT }

pub memory_some : (p : List ℤ) (m : FilterMemory) → dtmf_memory p ≡ Some m → IsAsked p m
memory_some p m e =
    let a = length p == PARAMETERS in
    let b = is_between (pos 1) FRAME_SAMPLES (word_at p 0) in
    let c = is_between (pos 0) MOST_SHIFT (word_at p 1) in
    let g = chosen (a && b && c) (record { kept = PARAMETERS + STATE_WORDS; running = STATE_WORDS; align = LEAST_ALIGNMENT }) m e in
    let ab = and_parts a b (and_parts (a && b) c g.0).0 in
    let seven = ab.0 in
    let f = count_is (unsigned_abs FRAME_SAMPLES) (word_at p 0) ab.1 in
    record { seven = grind (arith, nat_tests, seven); some = f.some; few = f.few; frame = f.natural; memory = g.1 }

-- the state before a sample
pub no_state : (p : List ℤ) → pos 0 ∷ pos 0 ∷ pos 0 ∷ pos 0 ∷ pos 0 ∷ pos 0 ∷ pos 0 ∷ pos 0 ∷ pos 0 ∷ pos 0 ∷ pos 0 ∷ pos 0 ∷ pos 0 ∷ pos 0 ∷ pos 0 ∷ pos 0 ∷ pos 0 ∷ pos 0 ∷ pos 0 ∷ [] ≡ state_after p []
no_state p =
    let s = word_at p 1 in
    ap (λ n. frame_words (pos n) (energy_of s (take n [])) (low_values s (take n [])) (high_values s (take n []))) (sym (no_samples (frame_length p)))

-- a block was run
pub was_run : (p : List ℤ) (h : History) (xs kept state new ys : List ℤ) → Runs p h kept state → Ran p h xs new ys
    → Runs p (with_samples h xs) kept new
was_run p h xs kept state new ys runs ran = record {
  history = IsWordHistory-with_samples h xs runs.history ran.samples;
  size = runs.size;
  parameters = runs.parameters;
  state = ran.state;
}
