use Rattle.std.proofs.Common.{Ok, ap, ◌∙◌}
use Rattle.std.specs.Result.{result_map_both}
use Rattle.mem_rec.specs.declared.Space.{Space}
use Rattle.host_map.specs.MemoryMap.{MemoryMap, renamed}
use Rattle.host_map.specs.Creation.{taken_over, without_replaced}
use Rattle.host_spaces.proofs.Leaving.{replaced_are}
use Rattle.host_spaces.proofs.laws.creations.Goals as goal

pub returns-clause-made : goal.returns-clause-made
returns-clause-made c =
    λ sizes map placed i g table sharers pieces made same.
    ap (result_map_both (λ (p : MemoryMap). renamed (taken_over sharers i) (without_replaced map g table p)) (λ (s : Space). s)) made
    ∙ ap (λ (p : MemoryMap). Ok (renamed (taken_over sharers i) p)) (replaced_are map placed g table pieces same)

pub returns-clause-refused : goal.returns-clause-refused
returns-clause-refused c =
    λ sizes map i g table sharers space refused. ap (result_map_both (λ (p : MemoryMap). renamed (taken_over sharers i) (without_replaced map g table p)) (λ (s : Space). s)) refused
