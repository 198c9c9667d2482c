use Rattle.std.proofs.Common.{rules}
use Rattle.dsp_library.proofs.codes.kind_by.Goals as goal

pub returns-in-7 : goal.returns-in-7
returns-in-7 c = search rules

pub returns-in-8 : goal.returns-in-8
returns-in-8 c = search rules

pub returns-in-9 : goal.returns-in-9
returns-in-9 c = search rules

pub returns-in-10 : goal.returns-in-10
returns-in-10 c = search rules

pub returns-in-11 : goal.returns-in-11
returns-in-11 c = search rules
