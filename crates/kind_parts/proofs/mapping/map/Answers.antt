use Rattle.std.proofs.Common.{◌≡◌, ◌∙◌, length, sym}
use Rattle.ialg.proofs.Blocks.{front_of_room}
use Rattle.kind_parts.proofs.Mappings.{maps_on}
use Rattle.kind_parts.proofs.mapping.map.Goals as goal

pub returns-clause-law : goal.returns-clause-law
returns-clause-law g c p h keeps =
    let M = g.K.Mapping in
    let outputs = c.map_each.new.outputs in
    let many : length outputs ≡ length c.args.input.now = c.map_each.auto.outputs ∙ c.split_at_mut-outputs.ensures.front_len in
    let all = front_of_room c.set_len.new.self outputs c.split_at_mut-outputs.result.1.now (many ∙ sym c.set_len.ensures.len) in
    rw all (maps_on M.taken M.value p h c.args.words.now c.args.input.now outputs keeps many c.map_each.ensures.values c.map_each.ensures.read)
