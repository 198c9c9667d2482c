use Rattle.std.proofs.lemmas.Grind.{common_steps}
use Rattle.std.proofs.Common.{◌≡◌, ℕ, IsTrue, [], Some, None, rules, set, set-set, get_or-set_other, sym, ap, subst, ◌∙◌, arith, ◌<◌, length, refl}
use Rattle.lifecycle.specs.declared.instance.Inst.TheVariants.{Idling}
use Rattle.lifecycle.specs.States.{IdleRefines}
use Rattle.ialg.specs.Records.{unplaced}
use Rattle.record_loans.specs.declared.pieces.Pieces.{Pieces}
use Rattle.scratch_group.proofs.Tables.{unplaced-with_bases}
use Rattle.record_loans.specs.Pieces.{piece_at, SamePieces}
use Rattle.host_shared.specs.Owners.{with_pieces_of}
use Rattle.host_table.specs.Table.{IsHoused, EachIsHoused, group_at, instance_of, active_in, slot_active_in}
use Rattle.lifecycle.specs.Turns.{HasBegun}
use Rattle.host_shared.specs.Locations.{shared_at}
use Rattle.ialg.specs.Log.{begun as begun_log}
use Rattle.host_shared.specs.Joining.{sharer_at, pieces_joined, CanJoin}
use Rattle.host_table.proofs.Housing.{settled_stays}
use Rattle.host_shared.proofs.Lent.{owners_of_all}
use Rattle.host_table.proofs.Held.{owners_of_held}
use Rattle.host_table.proofs.Changes.{read_ok_group, read_there, slot_in, group_inside}
use Rattle.host_table.proofs.Stepping.{ok_in}
use Rattle.host_table.proofs.Idles.{is_new, ok_after_still, keeps_by_still}
use Rattle.host_table.proofs.Shared.{tells_sharer_as, can_join}
use Rattle.host_table.proofs.Sharing.{TellsSharer}
use Rattle.host_table.proofs.Starts.{Begins, begun_at, room_at, put_there, idle_inst, stands_joined, held_start, bare_start, least_start, together_start, views_start, written_start, new_start, keeps_slot}
use Rattle.std.proofs.lemmas.Option.{same_Some, none-some}
use Rattle.host_table.proofs.life.start.Goals as goal
use Rattle.host_table.proofs.life.start.Goals.{After-start_member}
use Rattle.host_table.proofs.life.start.Given.{Over}

pub join-requires-clause-owners : goal.join-requires-clause-owners
join-requires-clause-owners g c = owners_of_held c.tables.inside.instances.items c.tables.inside.sharing.items (ok_in c.tables.view_is c.requires.ok).held

pub join-requires-clause-sharers : goal.join-requires-clause-sharers
join-requires-clause-sharers g c k =
    can_join g.M.Ialg.law.meaning.same (λ a b told. g.met.M.Ialg.same a b (g.met.M.Ialg.compared a b ∙ told)) (λ a. sym (g.met.M.Ialg.compared a a) ∙ g.met.M.Eq.laws.refl a)
    c.tables.inside.instances.items (ok_in c.tables.view_is c.requires.ok).slot_count c.tables.inside.sharing.items c.tables.inside.groups.items (ok_in c.tables.view_is c.requires.ok) (rw (← c.tables.view_is) at c.requires.least)
    (record { kind = c.args.instance.kind; params = c.args.instance.params.now; table = c.args.instance.table; own = c.args.own }) c.records-records.ensures.table
    k (sharer_at c.args.sharers k) (piece_at c.args.shared k) ((rw (← c.tables.view_is) at c.requires.sharers) k) (c.requires.placed k)

pub fill_slot-requires-clause-room : goal.fill_slot-requires-clause-room
fill_slot-requires-clause-room g c = omega (arith, c.requires.number, (ok_in c.tables.view_is c.requires.ok).slot_count)

pub fill_slot-requires-clause-empty : goal.fill_slot-requires-clause-empty
fill_slot-requires-clause-empty g c = rw (← c.tables.view_is) at c.requires.empty

pub index-requires : goal.index-requires
index-requires g c =
    let inside : c.args.instance.group < length c.tables.inside.groups.items = group_inside _ _ _ (ok_in c.tables.view_is c.requires.ok) _ c.requires.group in
    search (inside, rules)

pub index_mut-requires : goal.index_mut-requires
index_mut-requires g c =
    let inside : c.args.instance.number < length c.fill_slot.new.instances.items = slot_in _ _ _ c.fill_slot.ensures.there in
    search (inside, rules)

pub unreachable-requires : goal.unreachable-requires
unreachable-requires g c =
    let at = read_there _ c.args.instance.number _ c.fill_slot.ensures.there _ c.index_mut.ensures.value in
    none-some _ (sym c.in-None.is ∙ sym at ∙ c.fill_slot.ensures.there)

pub start_member-requires-clause-idle : goal.start_member-requires-clause-idle
start_member-requires-clause-idle g c k =
    let at = read_there _ c.args.instance.number _ c.fill_slot.ensures.there _ c.index_mut.ensures.value in
    ap (λ m. active_in k m.inst) (same_Some _ _ (sym (at ∙ c.in-Some.is) ∙ c.fill_slot.ensures.there))

pub start_member-requires-clause-can : goal.start_member-requires-clause-can
start_member-requires-clause-can g c =
    let at = read_there _ c.args.instance.number _ c.fill_slot.ensures.there _ c.index_mut.ensures.value in
    let member = same_Some _ _ (sym (at ∙ c.in-Some.is) ∙ c.fill_slot.ensures.there) in
    let group_is = read_ok_group _ _ _ (ok_in c.tables.view_is c.requires.ok) c.args.instance.group c.requires.group _ c.index.ensures in
    let inside : c.args.instance.number < length c.join.new.sharing.items = omega (arith, c.requires.number, c.join.ensures.count) in
    record {
      number = inside;
      owners = owners_of_all c.join.new.sharing.items c.args.instance.number c.join.ensures.owners inside;
      room = room_at _ _ _ _ _ _ (sym (ap (λ m. instance_of m.inst) member ∙ c.new.ensures)) (sym c.join.ensures.pieces) group_is (rw (← c.tables.view_is) at c.requires.fits);
    }

-- the instance has joined its sharers, and was started in its slot
module _ (g : Over) (c : After-start_member g) where
  member : c.in-Some.member ≡ (record { group = c.args.instance.group; inst = Idling c.new.result })
  member =
      put_there c.tables.inside.instances.items c.fill_slot.new.instances.items c.args.instance.number c.in-Some.member (record { group = c.args.instance.group; inst = Idling c.new.result }) _ (omega (arith, c.requires.number, (ok_in c.tables.view_is c.requires.ok).slot_count)) c.fill_slot.ensures.filled
      c.index_mut.ensures.value c.in-Some.is

  group : c.in-Some.member.group ≡ c.args.instance.group
  group = ap (λ m. m.group) member

  filled : set c.fill_slot.new.instances.items c.args.instance.number (Some (record { group = c.in-Some.member.group; inst = c.start_member.new.inst })) ≡ set c.tables.inside.instances.items c.args.instance.number (Some (record { group = c.in-Some.member.group; inst = c.start_member.new.inst }))
  filled = ap (λ l. set l c.args.instance.number (Some (record { group = c.in-Some.member.group; inst = c.start_member.new.inst }))) c.fill_slot.ensures.filled ∙ set-set c.tables.inside.instances.items c.args.instance.number _ (Some (record { group = c.in-Some.member.group; inst = c.start_member.new.inst }))

  group_is : group_at c.tables.inside.groups.items c.args.instance.group ≡ c.index.result.now
  group_is =
      read_ok_group _ _ _ (ok_in c.tables.view_is c.requires.ok) c.args.instance.group c.requires.group _
      c.index.ensures

  begun : HasBegun g.M.Ialg.law (record { kind = c.args.instance.kind; params = c.args.instance.params.now; table = c.args.instance.table; own = c.args.own }) (instance_of c.start_member.new.inst) (pieces_joined c.tables.inside.sharing.items c.args.sharers c.args.shared) (shared_at c.start_member.new.sharing.items c.args.instance.number) (group_at c.tables.inside.groups.items c.args.instance.group)
  begun =
      begun_at g.M.Ialg.law _ (record { kind = c.args.instance.kind; params = c.args.instance.params.now; table = c.args.instance.table; own = c.args.own }) (instance_of c.start_member.new.inst) _ _ (shared_at c.start_member.new.sharing.items c.args.instance.number) _ _ (ap (λ m. instance_of m.inst) member ∙ c.new.ensures)
      c.join.ensures.pieces (sym group_is) c.start_member.ensures.started.begun

  put : c.start_member.new.sharing.items ≡ with_pieces_of c.join.new.sharing.items c.args.instance.number (shared_at c.start_member.new.sharing.items c.args.instance.number)
  put = c.start_member.ensures.started.seen

  pieces : SamePieces (shared_at c.join.new.sharing.items c.args.instance.number) (shared_at c.start_member.new.sharing.items c.args.instance.number)
  pieces = subst (λ (x : Pieces). SamePieces x (shared_at c.start_member.new.sharing.items c.args.instance.number)) (sym c.join.ensures.pieces) begun.pieces

  table_same : unplaced (instance_of c.start_member.new.inst).table ≡ unplaced c.args.instance.table
  table_same = ap unplaced begun.same.table ∙ unplaced-with_bases c.args.instance.table _

  can : (k : ℕ) → CanJoin c.tables.inside.sharing.items k (sharer_at c.args.sharers k) (piece_at c.args.shared k)
  can k =
      can_join g.M.Ialg.law.meaning.same (λ x y told. g.met.M.Ialg.same x y (g.met.M.Ialg.compared x y ∙ told)) (λ x. sym (g.met.M.Ialg.compared x x) ∙ g.met.M.Eq.laws.refl x)
      c.tables.inside.instances.items (ok_in c.tables.view_is c.requires.ok).slot_count c.tables.inside.sharing.items c.tables.inside.groups.items (ok_in c.tables.view_is c.requires.ok) (rw (← c.tables.view_is) at c.requires.least)
      (record { kind = c.args.instance.kind; params = c.args.instance.params.now; table = c.args.instance.table; own = c.args.own }) c.records-records.ensures.table
      k (sharer_at c.args.sharers k) (piece_at c.args.shared k) ((rw (← c.tables.view_is) at c.requires.sharers) k) (c.requires.placed k)

  tells : (k : ℕ) → TellsSharer c.tables.inside.instances.items k (instance_of c.start_member.new.inst) (sharer_at c.args.sharers k)
  tells k =
      tells_sharer_as g.M.Ialg.law.meaning.same (λ x y told. g.met.M.Ialg.same x y (g.met.M.Ialg.compared x y ∙ told)) (λ x. sym (g.met.M.Ialg.compared x x) ∙ g.met.M.Eq.laws.refl x)
      c.tables.inside.instances.items (ok_in c.tables.view_is c.requires.ok).slot_count (record { kind = c.args.instance.kind; params = c.args.instance.params.now; table = c.args.instance.table; own = c.args.own }) (instance_of c.start_member.new.inst)
      begun.same.kind begun.same.params table_same k (sharer_at c.args.sharers k) ((rw (← c.tables.view_is) at c.requires.sharers) k)

  begins : Begins c.tables.inside.instances.items c.tables.inside.sharing.items c.tables.inside.groups.items c.args.instance.number (record { group = c.in-Some.member.group; inst = c.start_member.new.inst }) c.args.sharers c.args.shared c.join.new.sharing.items
  begins = record {
    ok = (ok_in c.tables.view_is c.requires.ok);
    inside = c.requires.number;
    empty = (rw (← c.tables.view_is) at c.requires.empty);
    tells = tells;
    can = can;
    count = c.join.ensures.count;
    joined = c.join.ensures.joined;
  }

  at_rest : slot_active_in (Some (record { group = c.in-Some.member.group; inst = c.start_member.new.inst })) ≡ None
  at_rest = ap (active_in c.in-Some.member.group) c.start_member.ensures.idle

  housed : IsHoused (instance_of c.start_member.new.inst) (shared_at c.start_member.new.sharing.items c.args.instance.number) (group_at c.tables.inside.groups.items c.in-Some.member.group)
  housed = rw group (record { fits = begun.fits; settled = settled_stays (record { kind = c.args.instance.kind; params = c.args.instance.params.now; table = c.args.instance.table; own = c.args.own }) (instance_of c.start_member.new.inst) (pieces_joined c.tables.inside.sharing.items c.args.sharers c.args.shared) (shared_at c.start_member.new.sharing.items c.args.instance.number) (group_at c.tables.inside.groups.items c.args.instance.group) begun.same begun.pieces })

pub returns-clause-ok : goal.returns-clause-ok
returns-clause-ok g c =
    let d = (goal.at.returns-clause-ok g c).After-start_member in
    rw (filled g d)
    (ok_after_still _ _ _ c.args.instance.number (Some (record { group = c.in-Some.member.group; inst = c.start_member.new.inst })) (shared_at c.start_member.new.sharing.items c.args.instance.number) c.start_member.new.sharing.items
    (views_start (begins g d) (shared_at c.start_member.new.sharing.items c.args.instance.number) (pieces g d) c.start_member.new.sharing.items (put g d))
    (held_start (begins g d) (shared_at c.start_member.new.sharing.items c.args.instance.number) (pieces g d) c.start_member.new.sharing.items (put g d))
    (bare_start (begins g d) (shared_at c.start_member.new.sharing.items c.args.instance.number) (pieces g d) c.start_member.new.sharing.items (put g d))
    (ok_in c.tables.view_is c.requires.ok) c.requires.number (ap slot_active_in (rw (← c.tables.view_is) at c.requires.empty)) (at_rest g d)
    (is_new EachIsHoused _ c.args.instance.number (shared_at c.start_member.new.sharing.items c.args.instance.number) (record { group = c.in-Some.member.group; inst = c.start_member.new.inst }) (rw (group g d) c.requires.group) (housed g d)))

pub returns-clause-others : goal.returns-clause-others
returns-clause-others g c =
    let d = (goal.at.returns-clause-others g c).After-start_member in
    rw (filled g d, ← c.tables.view_is) (record {
      slot = λ j apart. get_or-set_other c.tables.inside.instances.items c.args.instance.number j (Some (record { group = c.in-Some.member.group; inst = c.start_member.new.inst })) None apart;
      pieces = λ j apart. (views_start (begins g d) (shared_at c.start_member.new.sharing.items c.args.instance.number) (pieces g d) c.start_member.new.sharing.items (put g d)).others j apart;
    })

pub returns-clause-stands : goal.returns-clause-stands
returns-clause-stands g c j k =
    let d = (goal.at.returns-clause-stands g c).After-start_member in
    rw (← c.tables.view_is) (stands_joined (begins g d) (shared_at c.start_member.new.sharing.items c.args.instance.number) (pieces g d) c.start_member.new.sharing.items (put g d) j k)

pub returns-clause-least : goal.returns-clause-least
returns-clause-least g c =
    let d = (goal.at.returns-clause-least g c).After-start_member in
    least_start (begins g d) (shared_at c.start_member.new.sharing.items c.args.instance.number) (pieces g d) c.start_member.new.sharing.items (put g d) (rw (← c.tables.view_is) at c.requires.least)

pub returns-clause-together : goal.returns-clause-together
returns-clause-together g c =
    let d = (goal.at.returns-clause-together g c).After-start_member in
    rw (filled g d) (together_start (begins g d) (shared_at c.start_member.new.sharing.items c.args.instance.number) (pieces g d) c.start_member.new.sharing.items (put g d) (rw (← c.tables.view_is) at c.requires.together))

pub returns-clause-keeps : goal.returns-clause-keeps
returns-clause-keeps g c =
    let d = (goal.at.returns-clause-keeps g c).After-start_member in
    rw (← c.tables.view_is, filled g d) (λ w histories table new keeps.
    let kept : IdleRefines g.M.Ialg.law (instance_of c.start_member.new.inst) w (shared_at c.start_member.new.sharing.items c.args.instance.number) begun_log =
    (λ lawful.
    let before : IsTrue (g.M.Ialg.law.meaning.lawful c.args.instance.kind c.args.instance.params.now.items w) = rw ((begun g d).same.kind, (begun g d).same.params) at lawful in
    (begun g d).keeps w (table before)
    (new_start (begins g d) g.M.Ialg.law g.met.M.Ialg.idle_fill g.met.M.Ialg.active_fill w histories keeps (record { kind = c.args.instance.kind; params = c.args.instance.params.now; table = c.args.instance.table; own = c.args.own })
    (begun g d).same.kind (begun g d).same.params (table_same g d) before new)
    lawful) in
    let known = idle_inst g.M.Ialg.law w c.start_member.new.inst (shared_at c.start_member.new.sharing.items c.args.instance.number) (group_at c.tables.inside.groups.items c.in-Some.member.group) begun_log c.start_member.ensures.idle kept in
    keeps_by_still EachIsHoused _ _ _ c.args.instance.number (Some (record { group = c.in-Some.member.group; inst = c.start_member.new.inst })) (shared_at c.start_member.new.sharing.items c.args.instance.number) (ok_in c.tables.view_is c.requires.ok) c.requires.number (ap slot_active_in (rw (← c.tables.view_is) at c.requires.empty)) (at_rest g d)
    c.start_member.new.sharing.items (views_start (begins g d) (shared_at c.start_member.new.sharing.items c.args.instance.number) (pieces g d) c.start_member.new.sharing.items (put g d))
    g.M.Ialg.law w histories begun_log
    (λ j m apart slot lawful.
    written_start (begins g d) (shared_at c.start_member.new.sharing.items c.args.instance.number) (pieces g d) c.start_member.new.sharing.items (put g d) g.M.Ialg.law
    g.met.M.Ialg.idle_fill g.met.M.Ialg.active_fill w (group_at c.tables.inside.groups.items c.in-Some.member.group) begun_log known j m (group_at c.tables.inside.groups.items m.group) (histories j) apart slot lawful (keeps_slot c.tables.inside.groups.items g.M.Ialg.law w _ m (shared_at c.tables.inside.sharing.items j) (histories j) slot (keeps j)))
    known keeps)

pub returns-clause-pieces : goal.returns-clause-pieces
returns-clause-pieces g c =
    let d = (goal.at.returns-clause-pieces g c).After-start_member in
    rw (← c.tables.view_is) (begun g d).pieces

pub returns-clause-groups : goal.returns-clause-groups
returns-clause-groups g c = rw (← c.tables.view_is) refl

pub join-requires-clause-bare : goal.join-requires-clause-bare
join-requires-clause-bare g c = grind (arith, common_steps)

pub returns-clause-started : goal.returns-clause-started
returns-clause-started g c = grind (arith, common_steps)
