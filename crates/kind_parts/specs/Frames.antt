-- Frames of n samples, which follow each other from the start or the last reset.
use Rattle.std.specs.Prelude.{ℕ, ◌+◌, ◌==◌, List, [], ◌∷◌, take, ℤ, if◌then◌else◌}
use Rattle.ialg.specs.History.{History, Sample, samples_since_reset, samples_in_frame}

-- the samples that the frame of the next one has already, the newest first
abbrev pub frame_so_far : ℕ → History → List ℤ
frame_so_far n h = take (samples_in_frame n h) (samples_since_reset h)

-- what the newest sample gives, where a frame is told at its last sample
abbrev pub gives_by_frame : ℕ → (List ℤ → ℤ) → History → List ℤ
gives_by_frame n told (Sample x ∷ h) =
    let count = samples_in_frame n h + 1 in
    if count == n then told (take count (samples_since_reset (Sample x ∷ h))) ∷ [] else []
gives_by_frame n told _ = []
