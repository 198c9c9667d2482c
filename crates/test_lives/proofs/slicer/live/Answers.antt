use Rattle.std.proofs.Common.{◌∷◌, None, [], length, inl, refl, ap, sym, subst, ◌∙◌}
use Rattle.ialg.specs.Records.{unplaced}
use Rattle.record_loans.specs.Pieces.{SamePieces}
use Rattle.lifecycle.specs.declared.instance.Instance.{Instance}
use Rattle.test_doubles.specs.declared.slicer.Slicer.{Slicer}
use Rattle.ialg.specs.History.{Get}
use Rattle.ialg.specs.Log.{begun, called, commanded, fed, Activate, Deactivate}
use Rattle.ialg.specs.Meaning.{Words}
use Rattle.scratch_group.specs.Words.{placed}
use Rattle.host_shared.specs.Locations.{shared_at}
use Rattle.host_shared.proofs.Owners.{count_seen}
use Rattle.lifecycle.specs.Moves.{HasRoom}
use Rattle.lifecycle.proofs.Groups.{same_blocks}
use Rattle.test_lives.proofs.Housing.{same_pieces_then, same_blocks_then, same_count}
use Rattle.test_lives.proofs.Lives.{granted, first_outputs, levels_kept}
use Rattle.test_lives.proofs.slicer.live.Goals as goal

pub start-requires : goal.start-requires
start-requires c = record {
  number = c.requires.number;
  owners = c.requires.owners;
  room = subst (λ (s : Instance Slicer). HasRoom s (shared_at c.args.sharing.now.items 0) c.args.group.now) (sym c.new-member.ensures) c.requires.room;
}

pub run-requires-clause-lent : goal.run-requires-clause-lent
run-requires-clause-lent c = rw c.into_active-active.ensures c.activate.ensures.lent

pub returns-clause-output : goal.returns-clause-output
returns-clause-output c =
    let new = c.new-member.result.instance in
    let is = c.new-member.ensures in
    let levels = ap (λ (s : Instance Slicer). length s.params.items) is ∙ c.requires.levels in
    let table = ap (λ (s : Instance Slicer). unplaced s.table) is ∙ c.requires.table in
    let idle = c.start.ensures.started.begun.keeps None (granted new.params.items new.table levels table) (λ k. inl tt) in
    let was = c.activate.ensures.did.keeps None begun (λ space. tt) idle in
    let params = ap (λ (s : Instance Slicer). s.params) c.into_active-active.ensures ∙ c.activate.ensures.did.same.params ∙ c.start.ensures.started.begun.same.params ∙ ap (λ (s : Instance Slicer). s.params) is in
    first_outputs c.into_active-active.result.instance.params.items c.args.levels.items c.args.input.now c.run.new.out.items (ap (λ p. p.items) params) (c.run.ensures.did.output None (called Activate begun) refl (rw c.into_active-active.ensures was))

pub returns-clause-answer : goal.returns-clause-answer
returns-clause-answer c =
    let new = c.new-member.result.instance in
    let is = c.new-member.ensures in
    let levels = ap (λ (s : Instance Slicer). length s.params.items) is ∙ c.requires.levels in
    let table = ap (λ (s : Instance Slicer). unplaced s.table) is ∙ c.requires.table in
    let idle = c.start.ensures.started.begun.keeps None (granted new.params.items new.table levels table) (λ k. inl tt) in
    let was = c.activate.ensures.did.keeps None begun (λ space. tt) idle in
    let ran = c.run.ensures.did.keeps None (called Activate begun) (rw c.into_active-active.ensures was) in
    let params = c.run.ensures.did.same.params ∙ ap (λ (s : Instance Slicer). s.params) c.into_active-active.ensures ∙ c.activate.ensures.did.same.params ∙ c.start.ensures.started.begun.same.params ∙ ap (λ (s : Instance Slicer). s.params) is in
    c.control-status.ensures.did.status None (fed (called Activate begun) c.args.input.now) refl refl ran ∙ ap (λ p. Words p.items) params

pub returns-clause-once : goal.returns-clause-once
returns-clause-once c =
    let new = c.new-member.result.instance in
    let is = c.new-member.ensures in
    let levels = ap (λ (s : Instance Slicer). length s.params.items) is ∙ c.requires.levels in
    let table = ap (λ (s : Instance Slicer). unplaced s.table) is ∙ c.requires.table in
    let idle = c.start.ensures.started.begun.keeps None (granted new.params.items new.table levels table) (λ k. inl tt) in
    let was = c.activate.ensures.did.keeps None begun (λ space. tt) idle in
    let ran = c.run.ensures.did.keeps None (called Activate begun) (rw c.into_active-active.ensures was) in
    let asked = c.control-status.ensures.did.keeps None (fed (called Activate begun) c.args.input.now) refl ran in
    let rested = c.deactivate.ensures.did.keeps None (commanded (fed (called Activate begun) c.args.input.now) Get) asked refl in
    let params = c.deactivate.ensures.did.same.params ∙ c.control-status.ensures.did.same.params ∙ c.run.ensures.did.same.params ∙ ap (λ (s : Instance Slicer). s.params) c.into_active-active.ensures ∙ c.activate.ensures.did.same.params
    ∙ c.start.ensures.started.begun.same.params ∙ ap (λ (s : Instance Slicer). s.params) is in
    levels_kept c.deactivate.new.self.instance.params.items c.deactivate.new.self.instance.table c.deactivate.new.self.instance.own (shared_at c.deactivate.new.sharing.items 0) (called Deactivate (commanded (fed (called Activate begun) c.args.input.now) Get)).history rested ∙ ap (λ p. p.items) params

pub returns-clause-own : goal.returns-clause-own
returns-clause-own c =
    let started = subst (λ (s : Instance Slicer). SamePieces s.own c.start.new.self.instance.own) c.new-member.ensures c.start.ensures.started.begun.same.own in
    rw c.into_idle.ensures
    (same_pieces_then _ _ _ started (same_pieces_then _ _ _ c.activate.ensures.did.same.own
    (same_pieces_then _ _ _ (rw c.into_active-active.ensures at c.run.ensures.did.same.own) (same_pieces_then _ _ _ c.control-status.ensures.did.same.own c.deactivate.ensures.did.same.own))))

pub returns-clause-shared : goal.returns-clause-shared
returns-clause-shared c =
    same_pieces_then _ _ _ c.start.ensures.started.begun.pieces (same_pieces_then _ _ _ c.activate.ensures.did.pieces (same_pieces_then _ _ _ c.run.ensures.did.pieces (same_pieces_then _ _ _ c.control-status.ensures.did.pieces c.deactivate.ensures.did.pieces)))

pub returns-clause-blocks : goal.returns-clause-blocks
returns-clause-blocks c =
    same_blocks_then c.args.group.now c.activate.new.group c.deactivate.new.group c.activate.ensures.did.blocks
    (same_blocks_then c.activate.new.group c.run.new.group c.deactivate.new.group (same_blocks c.activate.new.group c.run.new.group c.run.ensures.did.group)
    (same_blocks_then c.run.new.group c.control-status.new.group c.deactivate.new.group (same_blocks c.run.new.group c.control-status.new.group c.control-status.ensures.did.group) c.deactivate.ensures.did.blocks))

pub returns-clause-count : goal.returns-clause-count
returns-clause-count c =
    same_count c.control-status.ensures.lent c.deactivate.ensures.seen ∙ same_count c.run.ensures.lent c.control-status.ensures.seen
    ∙ same_count c.activate.ensures.lent c.run.ensures.seen ∙ same_count c.start.ensures.lent c.activate.ensures.seen ∙ ap length c.start.ensures.started.seen ∙ count_seen c.args.sharing.now.items 0 c.requires.owners _

pub returns-clause-lent : goal.returns-clause-lent
returns-clause-lent c = rw c.into_idle.ensures c.deactivate.ensures.lent

pub returns-clause-table : goal.returns-clause-table
returns-clause-table c =
    ap (λ (s : Instance Slicer). s.table) c.into_idle.ensures ∙ c.deactivate.ensures.did.same.table ∙ c.control-status.ensures.did.same.table ∙ c.run.ensures.did.same.table ∙ ap (λ (s : Instance Slicer). s.table) c.into_active-active.ensures
    ∙ c.activate.ensures.did.same.table ∙ c.start.ensures.started.begun.same.table ∙ ap (λ (s : Instance Slicer). placed s.table s.own (shared_at c.args.sharing.now.items 0) c.args.group.now) c.new-member.ensures
