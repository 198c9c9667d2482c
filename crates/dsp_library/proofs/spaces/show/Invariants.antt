use Rattle.std.proofs.Common.{◌≡◌, ◌≤◌, ◌<◌, ℕ, length, slice_index_or}
use Rattle.host_map.specs.declared.placed.Placed.{Placed}
use Rattle.dsp_library.specs.declared.spaces.BlockShown.{BlockShown}
use Rattle.dsp_library.specs.Codes.{block_of}
use Rattle.dsp_library.proofs.spaces.show.Given as goal

abbrev pub invariant-loop-k : goal.invariant-loop-k
invariant-loop-k l = record {
  shown : (j : ℕ) (d : BlockShown) (e : Placed) → j < l.k → slice_index_or l.blocks j d ≡ block_of (slice_index_or l.map j e);
  rest : (j : ℕ) (d : BlockShown) → l.k ≤ j → slice_index_or l.blocks j d ≡ slice_index_or l.fn.blocks j d;
  room : length l.map ≤ length l.blocks;
}
