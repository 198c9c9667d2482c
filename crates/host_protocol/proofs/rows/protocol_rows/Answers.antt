use Rattle.std.proofs.Common.{refl}
use Rattle.host_protocol.proofs.rows.protocol_rows.Goals as goal

pub returns-clause-once : goal.returns-clause-once
returns-clause-once c = refl

pub returns-clause-turns0 : goal.returns-clause-turns0
returns-clause-turns0 c = refl

pub returns-clause-turns1 : goal.returns-clause-turns1
returns-clause-turns1 c = refl

pub returns-clause-apart : goal.returns-clause-apart
returns-clause-apart c = refl

pub returns-clause-replaced0 : goal.returns-clause-replaced0
returns-clause-replaced0 c = refl

pub returns-clause-replaced1 : goal.returns-clause-replaced1
returns-clause-replaced1 c = refl

pub returns-clause-replaced2 : goal.returns-clause-replaced2
returns-clause-replaced2 c = refl

pub returns-clause-record1 : goal.returns-clause-record1
returns-clause-record1 c = refl

pub returns-clause-record2 : goal.returns-clause-record2
returns-clause-record2 c = refl

pub returns-clause-block1 : goal.returns-clause-block1
returns-clause-block1 c = refl

pub returns-clause-block2 : goal.returns-clause-block2
returns-clause-block2 c = refl

pub returns-clause-block3 : goal.returns-clause-block3
returns-clause-block3 c = refl

pub returns-clause-rested : goal.returns-clause-rested
returns-clause-rested c = refl

pub returns-clause-compacted : goal.returns-clause-compacted
returns-clause-compacted c = refl

pub returns-clause-shared0 : goal.returns-clause-shared0
returns-clause-shared0 c = refl

pub returns-clause-shared1 : goal.returns-clause-shared1
returns-clause-shared1 c = refl

pub returns-clause-shared2 : goal.returns-clause-shared2
returns-clause-shared2 c = refl

pub returns-clause-first0 : goal.returns-clause-first0
returns-clause-first0 c = refl

pub returns-clause-beside0 : goal.returns-clause-beside0
returns-clause-beside0 c = refl

pub returns-clause-beside1 : goal.returns-clause-beside1
returns-clause-beside1 c = refl

pub returns-clause-deleted : goal.returns-clause-deleted
returns-clause-deleted c = refl

pub returns-clause-ended : goal.returns-clause-ended
returns-clause-ended c = refl

pub returns-clause-refused : goal.returns-clause-refused
returns-clause-refused c = refl
