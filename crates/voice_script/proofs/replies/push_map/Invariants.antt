use Rattle.std.proofs.Common.{◌≡◌, ◌≤◌, ◌+◌, ◌*◌, ◌++◌, take, length}
use Rattle.std.specs.List.{flat_map}
use Rattle.voice_script.specs.Readings.{entry_text}
use Rattle.voice_script.specs.declared.limits.TheConstants.{ENTRY_OCTETS}
use Rattle.voice_script.proofs.replies.push_map.Given as goal

abbrev pub invariant-loop-block : goal.invariant-loop-block
invariant-loop-block l = record {
  text : l.text.items ≡ l.fn.text.items ++ flat_map entry_text (take l.block-index l.blocks);
  room : length l.text.items ≤ length l.fn.text.items + l.block-index * ENTRY_OCTETS;
}
