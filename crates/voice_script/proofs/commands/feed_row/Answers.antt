use Rattle.std.proofs.Common.{arith}
use Rattle.voice_script.proofs.commands.feed_row.Goals as goal

pub returns : goal.returns
returns c = grind arith

pub returns-in_err-channel : goal.returns-in_err-channel
returns-in_err-channel c = grind arith

pub returns-in_err-samples : goal.returns-in_err-samples
returns-in_err-samples c = grind arith

pub returns-in_err-end : goal.returns-in_err-end
returns-in_err-end c = grind arith

pub returns-in_err-c : goal.returns-in_err-c
returns-in_err-c c = grind arith

pub returns-in_err-n : goal.returns-in_err-n
returns-in_err-n c = grind arith
