use Rattle.std.proofs.Common.{refl}
use Rattle.host_shared.proofs.locations.take_record.Goals as goal

-- the piece that stood at the owner
pub returns-clause-piece : goal.returns-clause-piece
returns-clause-piece c = rw (c.piece.ensures, c.replace_location.ensures.old, c.owner-at.ensures) refl
