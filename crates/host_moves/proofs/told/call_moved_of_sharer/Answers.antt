use Rattle.std.proofs.Common.{is_some, sym, ◌∙◌, ap}
use Rattle.std.proofs.lemmas.Bool.{true≢false, eq-eqb}
use Rattle.host_table.specs.Table.{slot_at}
use Rattle.host_spec.proofs.RunLemmas.{none_there}
use Rattle.host_moves.proofs.Logs.{kept_by_nobody}
use Rattle.host_moves.specs.Waiting.{all_from, holds_with}
use Rattle.host_moves.proofs.Sharing.{none_back, from_here, but_this, nobody_told, next_told}
use Rattle.host_moves.proofs.told.call_moved_of_sharer.Goals as goal

pub tell-requires-clause-room : goal.tell-requires-clause-room
tell-requires-clause-room g c m at =
    (c.requires.waiting.housed c.args.j m at).room
    (from_here (holds_with c.args.tables.now.sharing c.args.i c.args.k) c.args.j ∙ eq-eqb _ c.args.i c.requires.shares)

pub returns-then-lives-clause-waiting : goal.returns-then-lives-clause-waiting
returns-then-lives-clause-waiting g c =
    next_told c.args.i c.args.k c.args.j c.args.tables.now.instances c.args.tables.now.sharing c.args.tables.now.groups c.tell.new.tables.instances c.tell.new.tables.sharing c.tell.new.tables.groups c.tell.ensures.same.stands
    (c.tell.ensures.waiting (all_from (holds_with c.args.tables.now.sharing c.args.i c.args.k) c.args.j)
    (but_this c.args.i c.args.k c.args.j _ _ _ (all_from (holds_with c.args.tables.now.sharing c.args.i c.args.k) c.args.j) c.requires.waiting))

pub returns-then-lives-clause-same : goal.returns-then-lives-clause-same
returns-then-lives-clause-same g c = rw (none_back c.args.tables.now.instances c.args.j) at c.tell.ensures.same

pub returns-then-lives-clause-keeps : goal.returns-then-lives-clause-keeps
returns-then-lives-clause-keeps g c w logs = rw (none_back c.args.tables.now.instances c.args.j) at (c.tell.ensures.keeps w logs)

pub returns-else-lives-clause-keeps : goal.returns-else-lives-clause-keeps
returns-else-lives-clause-keeps g c w logs kept =
    kept_by_nobody g.M.Ialg.law w c.args.tables.now c.args.j logs (none_there (slot_at c.args.tables.now.instances c.args.j) (sym c.lives.ensures ∙ c.if-lives.false)) kept

pub returns-else-lives-clause-waiting : goal.returns-else-lives-clause-waiting
returns-else-lives-clause-waiting g c =
    nobody_told c.args.i c.args.k c.args.j _ _ _
    (λ m at. absurd (true≢false (ap is_some (sym at) ∙ sym c.lives.ensures ∙ c.if-lives.false)))
    c.requires.waiting
