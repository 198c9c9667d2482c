use Rattle.std.proofs.Common.{◌≤◌, length, arith}
use Rattle.std.proofs.lemmas.Grind.{common_steps}
use Rattle.voice_script.proofs.ReplyLemmas.{length-refusal_name}
use Rattle.voice_script.proofs.replies.push_name.Goals as goal

pub push_all-requires : goal.push_all-requires
push_all-requires c =
    let name : length c.as_bytes.result.now ≤ 7 = rw (c.as_bytes.ensures.value, c.name.ensures) (length-refusal_name c.args.refusal) in
    grind (arith, common_steps)

pub returns-clause-room : goal.returns-clause-room
returns-clause-room c =
    let name : length c.as_bytes.result.now ≤ 7 = rw (c.as_bytes.ensures.value, c.name.ensures) (length-refusal_name c.args.refusal) in
    grind (arith, common_steps)
