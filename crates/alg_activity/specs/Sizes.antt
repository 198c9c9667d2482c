-- For private members alone: a frame has 1 to 1,024 samples.
use Rattle.std.proofs.Common.{ℤ, pos, ◌&&◌, ◌==◌, ◌≤◌, IsTrue, List, length, arith}
use Rattle.std.proofs.lemmas.Bool.{and_parts}
use Rattle.ialg.specs.History.{word_at}
use Rattle.ialg.specs.Meaning.{is_between}
use Rattle.kind_parts.proofs.Parameters.{IsCount, count_is}
use Rattle.alg_activity.specs.Equation.{frame_length, are_limits, is_detector, is_frame}

counts : (p : List ℤ) → IsTrue (is_detector p) → IsCount 1024 (word_at p 0)
counts p e =
    let rest = (and_parts (length p == 6) (is_frame (word_at p 0) (word_at p 1) && are_limits p) e).1 in
    let frame = (and_parts (is_frame (word_at p 0) (word_at p 1)) (are_limits p) rest).0 in
    count_is 1024 (word_at p 0) (and_parts (is_between (pos 1) (pos 1024) (word_at p 0)) (is_between (pos 0) (pos 15) (word_at p 1)) frame).0

pub some_samples : (p : List ℤ) → IsTrue (is_detector p) → 1 ≤ frame_length p
some_samples p e = (counts p e).some

pub few_samples : (p : List ℤ) → IsTrue (is_detector p) → frame_length p ≤ 8192
few_samples p e =
    let few = (counts p e).few in
    omega arith
