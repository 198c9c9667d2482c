use Rattle.std.proofs.Common.{◌≡◌, ℕ, Option, sym, ◌∙◌, ap}
use Rattle.host_map.specs.Creation.{taken_over, sharer_at as listed_at}
use Rattle.host_shared.specs.Joining.{sharer_at}
use Rattle.host_spaces.specs.MemoryMap.{map_of}
use Rattle.host_map.specs.MemoryMap.{renamed}
use Rattle.host_instances.proofs.Begun.{Joins, joining, none_placed, room_joined, joined_stands, newborn}
use Rattle.host_instances.proofs.starting.begin.Goals as goal

pub start-requires-clause-placed : goal.start-requires-clause-placed
start-requires-clause-placed g c =
    let joins : Joins c.args.instance.number c.args.instance.group c.args.tables.now.instances c.args.tables.now.sharing c.args.tables.now.groups c.args.spaces.now c.take_over.new.self
    (record { kind = c.args.instance.kind; params = c.args.instance.params.now; table = c.args.instance.table; own = c.args.own }) c.args.shared c.args.sharers =
    joining g.M.Ialg.law.meaning.same (λ a b told. g.met.M.Ialg.same a b (g.met.M.Ialg.compared a b ∙ told)) (λ a. sym (g.met.M.Ialg.compared a a) ∙ g.met.M.Eq.laws.refl a)
    c.args.instance.number c.args.instance.group _ _ _ c.args.spaces.now c.take_over.new.self _ c.args.shared c.args.sharers _ c.listed-list.ensures c.requires.ok c.requires.empty c.requires.grown c.requires.sharers c.requires.placed
    c.take_over.ensures.taken c.take_over.ensures.left c.take_over.ensures.others c.take_over.ensures.stays in
    none_placed c.args.instance.number c.args.instance.group _ _ _ c.args.spaces.now c.take_over.new.self _ c.args.shared c.args.sharers joins

pub start-requires-clause-fits : goal.start-requires-clause-fits
start-requires-clause-fits g c =
    let joins : Joins c.args.instance.number c.args.instance.group c.args.tables.now.instances c.args.tables.now.sharing c.args.tables.now.groups c.args.spaces.now c.take_over.new.self
    (record { kind = c.args.instance.kind; params = c.args.instance.params.now; table = c.args.instance.table; own = c.args.own }) c.args.shared c.args.sharers =
    joining g.M.Ialg.law.meaning.same (λ a b told. g.met.M.Ialg.same a b (g.met.M.Ialg.compared a b ∙ told)) (λ a. sym (g.met.M.Ialg.compared a a) ∙ g.met.M.Eq.laws.refl a)
    c.args.instance.number c.args.instance.group _ _ _ c.args.spaces.now c.take_over.new.self _ c.args.shared c.args.sharers _ c.listed-list.ensures c.requires.ok c.requires.empty c.requires.grown c.requires.sharers c.requires.placed
    c.take_over.ensures.taken c.take_over.ensures.left c.take_over.ensures.others c.take_over.ensures.stays in
    room_joined c.args.instance.number c.args.instance.group _ _ _ c.args.spaces.now c.take_over.new.self _ c.args.shared c.args.sharers joins c.in_order.ensures

pub returns-clause-standing : goal.returns-clause-standing
returns-clause-standing g c =
    let joins : Joins c.args.instance.number c.args.instance.group c.args.tables.now.instances c.args.tables.now.sharing c.args.tables.now.groups c.args.spaces.now c.take_over.new.self
    (record { kind = c.args.instance.kind; params = c.args.instance.params.now; table = c.args.instance.table; own = c.args.own }) c.args.shared c.args.sharers =
    joining g.M.Ialg.law.meaning.same (λ a b told. g.met.M.Ialg.same a b (g.met.M.Ialg.compared a b ∙ told)) (λ a. sym (g.met.M.Ialg.compared a a) ∙ g.met.M.Eq.laws.refl a)
    c.args.instance.number c.args.instance.group _ _ _ c.args.spaces.now c.take_over.new.self _ c.args.shared c.args.sharers _ c.listed-list.ensures c.requires.ok c.requires.empty c.requires.grown c.requires.sharers c.requires.placed
    c.take_over.ensures.taken c.take_over.ensures.left c.take_over.ensures.others c.take_over.ensures.stays in
    rw c.start.ensures.groups
    (joined_stands c.args.instance.number c.args.instance.group _ _ _ c.args.spaces.now c.take_over.new.self _ c.args.shared c.args.sharers joins _ _ c.requires.gone
    c.start.ensures.others c.start.ensures.started c.start.ensures.pieces c.start.ensures.stands c.start.ensures.least c.start.ensures.together)

pub returns-clause-newborn : goal.returns-clause-newborn
returns-clause-newborn g c =
    let joins : Joins c.args.instance.number c.args.instance.group c.args.tables.now.instances c.args.tables.now.sharing c.args.tables.now.groups c.args.spaces.now c.take_over.new.self
    (record { kind = c.args.instance.kind; params = c.args.instance.params.now; table = c.args.instance.table; own = c.args.own }) c.args.shared c.args.sharers =
    joining g.M.Ialg.law.meaning.same (λ a b told. g.met.M.Ialg.same a b (g.met.M.Ialg.compared a b ∙ told)) (λ a. sym (g.met.M.Ialg.compared a a) ∙ g.met.M.Eq.laws.refl a)
    c.args.instance.number c.args.instance.group _ _ _ c.args.spaces.now c.take_over.new.self _ c.args.shared c.args.sharers _ c.listed-list.ensures c.requires.ok c.requires.empty c.requires.grown c.requires.sharers c.requires.placed
    c.take_over.ensures.taken c.take_over.ensures.left c.take_over.ensures.others c.take_over.ensures.stays in
    newborn c.args.instance.number c.args.instance.group _ _ _ c.args.spaces.now c.take_over.new.self _ c.args.shared c.args.sharers joins _ _ c.requires.gone
    c.start.ensures.others c.start.ensures.started c.start.ensures.pieces c.start.ensures.stands c.start.ensures.least c.start.ensures.together

pub returns-clause-others : goal.returns-clause-others
returns-clause-others g c j apart = c.start.ensures.others.slot j apart

pub returns-clause-map : goal.returns-clause-map
returns-clause-map g c =
    let same : ◌≡◌ {A = ℕ → Option ℕ} (λ k. listed_at c.listed-list.result k) (λ k. sharer_at c.args.sharers k) = λ t k. c.listed-list.ensures k t in
    c.take_over.ensures.map ∙ ap (λ (sharers : ℕ → Option ℕ). renamed (taken_over sharers c.args.instance.number) (map_of c.args.spaces.now)) same
