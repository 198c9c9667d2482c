use Rattle.std.proofs.Common.{sym, ◌∙◌}
use Rattle.host_table.proofs.Told.{told_by_none, same_members}
use Rattle.host_table.proofs.moves.call_moved_in_slot.Goals as goal

pub returns-else-is_member-clause-told : goal.returns-else-is_member-clause-told
returns-else-is_member-clause-told g c =
    told_by_none c.args.g c.args.i _ _ _ (sym c.is_member.ensures ∙ c.if-is_member.false) c.requires.told

pub returns-else-is_member-clause-same : goal.returns-else-is_member-clause-same
returns-else-is_member-clause-same g c = same_members _ _ _

pub returns-then-is_member-clause-keeps : goal.returns-then-is_member-clause-keeps
returns-then-is_member-clause-keeps g c w histories kept =
    rw (sym c.is_member.ensures ∙ c.if-is_member.true) (c.call_moved_of_member.ensures.keeps w histories kept)

pub returns-else-is_member-clause-keeps : goal.returns-else-is_member-clause-keeps
returns-else-is_member-clause-keeps g c w histories kept = rw (sym c.is_member.ensures ∙ c.if-is_member.false) kept
