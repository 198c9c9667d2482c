use Rattle.std.proofs.Common.{◌≡◌, ℕ, Bool, [], Option, Ok, inl, refl, sym, ap, ◌∙◌, subst, arith}
use Rattle.ialg.specs.Log.{begun}
use Rattle.host_table.specs.Refinement.{logs_of, with_history, with_log}
use Rattle.host_table.proofs.HistoriesGo.{history_with_log, kept_by_logs}
use Rattle.lifecycle.proofs.Words.{are_new}
use Rattle.host_map.specs.declared.placed.Owner.TheVariants.{Record}
use Rattle.host_map.specs.MemoryMap.{blocks_in, renamed}
use Rattle.host_spaces.specs.MemoryMap.{map_of, sizes_of, space_in}
use Rattle.host_map.specs.Creation.{created_map, taken_over, sharer_at as listed_at}
use Rattle.host_spaces.specs.Pieces.{ArePlacedPieces, without_pieces}
use Rattle.host_table.specs.declared.member.Member.{Member}
use Rattle.host_table.specs.Table.{slot_at, group_at}
use Rattle.record_loans.specs.Pieces.{no_pieces}
use Rattle.host_map.specs.Sharers.{asked, sharer_of}
use Rattle.host_table.specs.Sharers.{asked_by}
use Rattle.host_shared.specs.Joining.{sharer_at}
use Rattle.host_moves.specs.Standing.{SlotIsSame}
use Rattle.host_moves.proofs.Instances.{not_a_group, other_instance}
use Rattle.host_instances.specs.Blocks.{replaced_pieces}
use Rattle.host_instances.specs.Growth.{activity_grown}
use Rattle.host_instances.proofs.Placing.{none_before, are_placed, is_placed}
use Rattle.host_instances.proofs.Begun.{sharable, sharers_stay}
use Rattle.host_instances.proofs.Replaces.{places_are, replaces_is}
use Rattle.host_instances.proofs.starting.start_in_spaces.Goals as goal

pub place-requires-clause-blocks : goal.place-requires-clause-blocks
place-requires-clause-blocks g c = rw (← c.tables.view_is) at (c.requires.standing.blocks c.args.instance.group)

pub place-requires-clause-records : goal.place-requires-clause-records
place-requires-clause-records g c k space = c.requires.standing.gone c.args.instance.number k space c.requires.empty

pub place-requires-clause-room : goal.place-requires-clause-room
place-requires-clause-room g c space =
    let few = c.blocks_are_few.ensures.room (blocks_in (map_of c.args.spaces.now) space) c.args.instance.number (c.maps_have_room.ensures.single c.args.tables.now.instances c.args.tables.now.sharing c.args.tables.now.groups c.args.spaces.now space c.requires.ok c.requires.standing) c.requires.number (λ k. c.requires.standing.gone c.args.instance.number k space c.requires.empty) in
    omega (arith, few)

pub grow-requires : goal.grow-requires
grow-requires g c = record {
  range = c.requires.group;
  ok = c.requires.ok;
  poisoned = c.requires.poisoned;
  placed =
      are_placed c.args.instance.number c.args.instance.group c.args.instance.table c.in-Ok.placed.blocks _ _ _ c.args.spaces.now c.place.new.spaces c.requires.empty c.requires.standing (rw (← c.tables.view_is) c.in-Ok.ensures.needed) c.in-Ok.ensures.blocks
      c.in-Ok.ensures.others c.place.ensures.stays;
  words = c.in-Ok.ensures.poison.blocks;
}

pub begin-requires-clause-ok : goal.begin-requires-clause-ok
begin-requires-clause-ok g c = c.grow.ensures.ok

pub begin-requires-clause-grown : goal.begin-requires-clause-grown
begin-requires-clause-grown g c = c.grow.ensures.grown

pub begin-requires-clause-gone : goal.begin-requires-clause-gone
begin-requires-clause-gone g c j k space none apart =
    c.grow.ensures.others (Record j k) space (not_a_group j k c.args.instance.group)
    ∙ c.in-Ok.ensures.others (Record j k) space (not_a_group j k c.args.instance.group) (λ l. other_instance c.args.instance.number j l k apart)
    ∙ c.requires.standing.gone j k space (none_before (slot_at c.args.tables.now.instances j) (slot_at c.grow.new.tables.instances j) (c.grow.ensures.same j) none)

pub returns-clause-ok : goal.returns-clause-ok
returns-clause-ok g c = c.begin.ensures.ok

pub returns-clause-standing : goal.returns-clause-standing
returns-clause-standing g c = c.begin.ensures.standing

pub returns-clause-poisoned : goal.returns-clause-poisoned
returns-clause-poisoned g c = rw c.begin.ensures.groups c.grow.ensures.poisoned

pub returns-clause-newborn : goal.returns-clause-newborn
returns-clause-newborn g c = c.begin.ensures.newborn

pub returns-clause-others : goal.returns-clause-others
returns-clause-others g c j apart =
    subst (λ (s : Option (Member _)). SlotIsSame (slot_at c.args.tables.now.instances j) s) (sym (c.begin.ensures.others j apart)) (c.grow.ensures.same j)

pub place-requires-clause-sharers : goal.place-requires-clause-sharers
place-requires-clause-sharers g c k j is =
    sharable g.M.Ialg.law.meaning.same (λ a b told. g.met.M.Ialg.same a b (g.met.M.Ialg.compared a b ∙ told)) (λ a. sym (g.met.M.Ialg.compared a a) ∙ g.met.M.Eq.laws.refl a)
    c.args.tables.now.instances c.args.tables.now.sharing c.args.tables.now.groups c.requires.ok (record { kind = c.args.instance.kind; params = c.args.instance.params.now; table = c.args.instance.table; own = no_pieces })
    c.find_sharers-sharers.result (rw (← c.tables.view_is) c.find_sharers-sharers.ensures) k j (sym (c.listed-list.ensures k) ∙ is)

pub begin-requires-clause-sharers : goal.begin-requires-clause-sharers
begin-requires-clause-sharers g c =
    sharers_stay g.M.Ialg.law.meaning.same c.args.tables.now.instances c.grow.new.tables.instances (asked c.args.instance.kind c.args.instance.params.now.items c.args.instance.table) c.find_sharers-sharers.result c.grow.ensures.same (rw (← c.tables.view_is) c.find_sharers-sharers.ensures)

pub begin-requires-clause-placed : goal.begin-requires-clause-placed
begin-requires-clause-placed g c =
    let same : ◌≡◌ {A = ℕ → Option ℕ} (λ k. listed_at c.listed-list.result k) (λ k. sharer_at c.find_sharers-sharers.result k) = λ t k. c.listed-list.ensures k t in
    let pieces : ArePlacedPieces c.args.spaces.now c.args.instance.table (λ k. sharer_at c.find_sharers-sharers.result k) c.in-Ok.placed.own c.in-Ok.placed.shared =
    subst (λ (sharers : ℕ → Option ℕ). ArePlacedPieces c.args.spaces.now c.args.instance.table sharers c.in-Ok.placed.own c.in-Ok.placed.shared) same c.in-Ok.ensures.pieces in
    is_placed c.args.instance.number c.args.instance.group c.args.instance.table c.in-Ok.placed.blocks _ c.args.tables.now.sharing _ c.args.spaces.now c.place.new.spaces c.requires.empty c.requires.standing (rw (← c.tables.view_is) c.in-Ok.ensures.needed) c.in-Ok.ensures.blocks
    c.in-Ok.ensures.others c.place.ensures.stays (sharer_at c.find_sharers-sharers.result) c.in-Ok.placed.own c.in-Ok.placed.shared (group_at c.grow.new.tables.groups c.args.instance.group) c.grow.new.spaces c.records-records.ensures.table
    c.in-Ok.ensures.records pieces (c.grow.ensures.need c.args.instance.table) c.grow.ensures.others c.grow.ensures.stays

pub returns-clause-exact : goal.returns-clause-exact
returns-clause-exact g c =
    let at_sharers : (k : ℕ) → sharer_at c.find_sharers-sharers.result k ≡ sharer_of g.M.Ialg.law.meaning.same (λ j. asked_by (slot_at c.args.tables.now.instances j)) (asked c.args.instance.kind c.args.instance.params.now.items c.args.instance.table) k = rw (← c.tables.view_is) c.find_sharers-sharers.ensures in
    let sharers : ℕ → Option ℕ = λ k. listed_at c.listed-list.result k in
    let asked_for : ℕ → Option ℕ = λ k. sharer_of g.M.Ialg.law.meaning.same (λ j. asked_by (slot_at c.args.tables.now.instances j)) (asked c.args.instance.kind c.args.instance.params.now.items c.args.instance.table) k in
    let same : ◌≡◌ {A = ℕ → Option ℕ} sharers asked_for = λ t k. (c.listed-list.ensures k ∙ at_sharers k) t in
    let made : created_map (sizes_of c.args.spaces.now) (map_of c.args.spaces.now) c.args.instance.number c.args.instance.group c.args.instance.table sharers
    ≡ Ok (renamed (taken_over sharers c.args.instance.number) (without_pieces (map_of c.place.new.spaces) (replaced_pieces c.in-Ok.placed.blocks (group_at c.args.tables.now.groups c.args.instance.group)))) =
    c.creations.ensures.made (sizes_of c.args.spaces.now) (map_of c.args.spaces.now) (map_of c.place.new.spaces) c.args.instance.number c.args.instance.group c.args.instance.table sharers
    (replaced_pieces c.in-Ok.placed.blocks (group_at c.args.tables.now.groups c.args.instance.group)) c.in-Ok.ensures.exact
    (places_are (map_of c.args.spaces.now) c.args.instance.group c.args.instance.table (group_at c.args.tables.now.groups c.args.instance.group) (λ space. (space_in c.args.spaces.now space).region) c.in-Ok.placed.blocks
    (c.requires.standing.blocks c.args.instance.group) (rw (← c.tables.view_is) c.in-Ok.ensures.needed)) in
    let taken : ◌≡◌ {A = ℕ → Option ℕ} sharers (λ k. sharer_at c.find_sharers-sharers.result k) = λ t k. c.listed-list.ensures k t in
    ap (created_map (sizes_of c.args.spaces.now) (map_of c.args.spaces.now) c.args.instance.number c.args.instance.group c.args.instance.table) (sym same)
    ∙ made
    ∙ ap Ok (ap (renamed (taken_over sharers c.args.instance.number)) (sym c.grow.ensures.map)
    ∙ ap (λ (its : ℕ → Option ℕ). renamed (taken_over its c.args.instance.number) (map_of c.grow.new.spaces)) taken
    ∙ sym c.begin.ensures.map)

pub returns-clause-activity : goal.returns-clause-activity
returns-clause-activity g c k =
    rw c.begin.ensures.groups
    (c.grow.ensures.activity k
    ∙ ap (λ (t : Bool). activity_grown t c.args.tables.now.groups c.args.instance.group k)
    (sym (replaces_is (map_of c.args.spaces.now) c.args.instance.group c.args.instance.table (group_at c.args.tables.now.groups c.args.instance.group) (λ space. (space_in c.args.spaces.now space).region) c.in-Ok.placed.blocks
    (c.requires.standing.blocks c.args.instance.group) (rw (← c.tables.view_is) c.in-Ok.ensures.needed))))

pub returns-clause-keeps : goal.returns-clause-keeps
returns-clause-keeps g c histories lawful before =
    let grown = c.grow.ensures.keeps histories before in
    let logs = logs_of histories grown.0 in
    let i = c.args.instance.number in
    kept_by_logs g.M.Ialg.law c.args.poison c.begin.new.tables (with_log logs i begun) (with_history histories i []) (λ j. history_with_log logs histories i begun [] refl (λ k. refl) j)
    (c.begin.ensures.keeps c.args.poison logs lawful
    (are_new c.args.poison (g.M.Ialg.law.fill c.args.instance.kind c.args.instance.params.now.items) c.args.instance.table c.in-Ok.placed.own c.in-Ok.placed.shared c.in-Ok.ensures.poison.own (λ k. inl (c.in-Ok.ensures.poison.shared k)))
    grown.1)

pub returns-clause-stays : goal.returns-clause-stays
returns-clause-stays g c space = record {
  region = (c.begin.ensures.stays space).region ∙ (c.grow.ensures.stays space).region ∙ (c.place.ensures.stays space).region;
  slid = (c.begin.ensures.stays space).slid ∙ (c.grow.ensures.stays space).slid ∙ (c.place.ensures.stays space).slid;
}

pub returns-in-Err-clause-exact : goal.returns-in-Err-clause-exact
returns-in-Err-clause-exact g c =
    let at_sharers : (k : ℕ) → sharer_at c.find_sharers-sharers.result k ≡ sharer_of g.M.Ialg.law.meaning.same (λ j. asked_by (slot_at c.args.tables.now.instances j)) (asked c.args.instance.kind c.args.instance.params.now.items c.args.instance.table) k = rw (← c.tables.view_is) c.find_sharers-sharers.ensures in
    let sharers : ℕ → Option ℕ = λ k. listed_at c.listed-list.result k in
    let asked_for : ℕ → Option ℕ = λ k. sharer_of g.M.Ialg.law.meaning.same (λ j. asked_by (slot_at c.args.tables.now.instances j)) (asked c.args.instance.kind c.args.instance.params.now.items c.args.instance.table) k in
    let same : ◌≡◌ {A = ℕ → Option ℕ} sharers asked_for = λ t k. (c.listed-list.ensures k ∙ at_sharers k) t in
    ap (created_map (sizes_of c.args.spaces.now) (map_of c.args.spaces.now) c.args.instance.number c.args.instance.group c.args.instance.table) (sym same)
    ∙ c.creations.ensures.refused (sizes_of c.args.spaces.now) (map_of c.args.spaces.now) c.args.instance.number c.args.instance.group c.args.instance.table sharers c.in-Err.space c.in-Err.ensures.exact

pub returns-in-Err-clause-ok : goal.returns-in-Err-clause-ok
returns-in-Err-clause-ok g c = c.requires.ok

pub returns-in-Err-clause-standing : goal.returns-in-Err-clause-standing
returns-in-Err-clause-standing g c = rw c.in-Err.ensures.refused c.requires.standing

pub returns-in-Err-clause-poisoned : goal.returns-in-Err-clause-poisoned
returns-in-Err-clause-poisoned g c = c.requires.poisoned

pub returns-in-Err-clause-stays : goal.returns-in-Err-clause-stays
returns-in-Err-clause-stays g c = c.place.ensures.stays

pub returns-in-Err-clause-refused : goal.returns-in-Err-clause-refused
returns-in-Err-clause-refused g c = (refl, c.in-Err.ensures.refused)
