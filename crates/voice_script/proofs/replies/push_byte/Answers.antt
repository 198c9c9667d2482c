use Rattle.std.proofs.Common.{lit<, arith}
use Rattle.std.proofs.lemmas.Fmt.{length-decimal-le}
use Rattle.voice_script.specs.declared.limits.TheConstants.{BYTE_DIGITS}
use Rattle.voice_script.proofs.replies.push_byte.Goals as goal

pub push_digits-requires : goal.push_digits-requires
push_digits-requires c =
    let few = length-decimal-le BYTE_DIGITS c.from.result (lit< tt) (omega arith) (omega arith) in
    omega arith

pub returns-clause-few : goal.returns-clause-few
returns-clause-few c = length-decimal-le BYTE_DIGITS c.args.number (lit< tt) (omega arith) (omega arith)
