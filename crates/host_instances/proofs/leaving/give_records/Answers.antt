use Rattle.std.proofs.Common.{◌≡◌, ◌<◌, ℕ, List, length, Some, sym, ◌∙◌, ap, arith}
use Rattle.std.proofs.lemmas.Option.{same_Some}
use Rattle.mem_rec.specs.declared.MemRec.{MemRec}
use Rattle.host_table.specs.declared.member.Member.{Member}
use Rattle.host_table.specs.Table.{slot_at, instance_of}
use Rattle.host_table.specs.Steps.{active_beside, rested_if}
use Rattle.host_table.proofs.Changes.{slot_in}
use Rattle.host_table.proofs.HistoriesGo.{given_rested_if, histories_stay}
use Rattle.host_table.proofs.Goings.{member_of}
use Rattle.host_table.proofs.Held.{owners_of_held}
use Rattle.host_map.specs.Creation.{handed_on, sharer_at}
use Rattle.host_shared.specs.Sharing.{next_sharer}
use Rattle.host_map.specs.MemoryMap.{is_instance's, renamed, without_owners}
use Rattle.host_spaces.specs.MemoryMap.{map_of}
use Rattle.host_spaces.specs.Pieces.{spaces_of}
use Rattle.std.specs.Prelude.{Option}
use Rattle.host_instances.proofs.Ended.{handed_same, stay_then}
use Rattle.host_instances.proofs.Records.{Going, records_back, pieces_back, location_beside, same_beside}
use Rattle.host_instances.proofs.leaving.give_records.Goals as goal

pub next_sharers-next-requires-clause-number : goal.next_sharers-next-requires-clause-number
next_sharers-next-requires-clause-number g c =
    let its = member_of c.args.tables.now.instances c.args.i c.requires.living in
    let inside : c.args.i < length c.args.tables.now.instances = slot_in c.args.tables.now.instances c.args.i its.0 its.1 in
    omega (arith, inside, c.requires.ok.slot_count)

pub next_sharers-next-requires-clause-held : goal.next_sharers-next-requires-clause-held
next_sharers-next-requires-clause-held g c k j = owners_of_held _ _ (rw (← c.tables.view_is) at c.requires.ok).held j k c.args.i

same_table : {M : Type 0} (m n : Member M) → ◌≡◌ {A = Option (Member M)} (Some m) (Some n) → (instance_of m.inst).table ≡ (instance_of n.inst).table
same_table m n e = ap (λ (o : Member _). (instance_of o.inst).table) (same_Some m n e)

pub take_out_records-requires : goal.take_out_records-requires
take_out_records-requires g c =
    let its = member_of c.args.tables.now.instances c.args.i c.requires.living in
    let places_are : (m : Member _) → slot_at c.args.tables.now.instances c.args.i ≡ Some m → c.spaces_of_records-places.result ≡ spaces_of (instance_of m.inst).table = rw (← c.tables.view_is) c.spaces_of_records-places.ensures in
    let table : List MemRec = (instance_of its.0.inst).table in
    let going : Going c.args.i c.args.tables.now.instances c.args.tables.now.sharing c.args.tables.now.groups c.args.spaces.now c.hand_on.new.self = record {
      next = (λ k. sharer_at c.listed-list.result k);
      standing = c.requires.standing;
      held = c.requires.ok.held;
      is_next = rw (← c.tables.view_is) (λ k. c.listed-list.ensures k ∙ c.next_sharers-next.ensures k);
      others = c.hand_on.ensures.others;
      handed = c.hand_on.ensures.handed;
      left = c.hand_on.ensures.left;
      stays = c.hand_on.ensures.stays;
    } in
    record {
      leaving = record {
        table = table;
        there = places_are its.0 its.1;
        pieces = pieces_back c.args.i _ _ _ c.args.spaces.now c.hand_on.new.self c.end-own.result.0 c.end-own.result.1 table going
            c.end-own.ensures.own c.end-own.ensures.shared (λ m at. same_table its.0 m (sym its.1 ∙ at)) its.0 its.1;
        records = records_back c.args.i _ _ _ c.args.spaces.now c.hand_on.new.self c.end-own.result.0 c.end-own.result.1 table going
            c.end-own.ensures.own c.end-own.ensures.shared (λ m at. same_table its.0 m (sym its.1 ∙ at)) its.0 its.1;
      };
    }

pub returns-clause-standing : goal.returns-clause-standing
returns-clause-standing g c =
    let going : Going c.args.i c.args.tables.now.instances c.args.tables.now.sharing c.args.tables.now.groups c.args.spaces.now c.hand_on.new.self = record {
      next = (λ k. sharer_at c.listed-list.result k);
      standing = c.requires.standing;
      held = c.requires.ok.held;
      is_next = rw (← c.tables.view_is) (λ k. c.listed-list.ensures k ∙ c.next_sharers-next.ensures k);
      others = c.hand_on.ensures.others;
      handed = c.hand_on.ensures.handed;
      left = c.hand_on.ensures.left;
      stays = c.hand_on.ensures.stays;
    } in
    location_beside c.args.i c.take_out_records.new.self going c.end-own.ensures.others c.end-own.ensures.gone c.end-own.ensures.none c.end-own.ensures.handed
    (c.end-own.ensures.least c.requires.standing.least) (c.end-own.ensures.together c.requires.standing.together)
    c.take_out_records.ensures.map c.take_out_records.ensures.others c.take_out_records.ensures.stays

pub returns-clause-others : goal.returns-clause-others
returns-clause-others g c = same_beside c.args.i c.end-own.ensures.others

pub returns-clause-map : goal.returns-clause-map
returns-clause-map g c =
    let its = member_of c.args.tables.now.instances c.args.i c.requires.living in
    let next_is : (k : ℕ) → sharer_at c.listed-list.result k ≡ next_sharer c.args.tables.now.sharing c.args.i k = rw (← c.tables.view_is) (λ k. c.listed-list.ensures k ∙ c.next_sharers-next.ensures k) in
    let same : ◌≡◌ {A = ℕ → Option ℕ} (λ k. sharer_at c.listed-list.result k) (λ k. next_sharer c.args.tables.now.sharing c.args.i k) = λ t k. next_is k t in
    c.take_out_records.ensures.map
    ∙ ap (without_owners (is_instance's c.args.i)) (c.hand_on.ensures.map
    ∙ ap (λ (next : ℕ → Option ℕ). renamed (handed_on next c.args.i) (map_of c.args.spaces.now)) same
    ∙ handed_same g.M.Ialg.law.meaning.same c.args.i c.args.tables.now.instances c.end-own.new.tables.instances c.args.tables.now.sharing c.args.tables.now.groups c.args.spaces.now c.requires.standing its.0 its.1
    (λ k owner. c.end-own.ensures.next c.requires.standing.least c.requires.standing.together k its.0 its.1 owner))

pub returns-clause-spaces : goal.returns-clause-spaces
returns-clause-spaces g c = stay_then _ _ _ c.hand_on.ensures.stays c.take_out_records.ensures.stays

pub returns-clause-keeps : goal.returns-clause-keeps
returns-clause-keeps g c =
    let active = active_beside c.args.tables.now c.args.i in
    histories_stay g.M.Ialg.law c.args.poison c.args.tables.now c.end-own.new.tables (rested_if c.args.i active) c.end-own.ensures.keeps (λ logs j. given_rested_if c.args.i active logs j)
