use Rattle.std.proofs.Common.{◌<◌, rules, length, sym, ◌∙◌, ap, subst}
use Rattle.std.proofs.lemmas.Option.{none-some, same_Some}
use Rattle.host_table.specs.Frames.{IsEnded}
use Rattle.host_table.proofs.Changes.{read_there, slot_in}
use Rattle.host_table.proofs.life.empty_slot.Goals as goal

pub index_mut-requires : goal.index_mut-requires
index_mut-requires g c =
    let inside : c.args.i < length c.args.instances.now.items = slot_in _ _ _ c.requires.1 in
    search (inside, rules)

pub unreachable-requires-in-None : goal.unreachable-requires-in-None
unreachable-requires-in-None g c =
    let at = read_there _ c.args.i c.requires.0 c.requires.1 _ c.index_mut.ensures.value in
    none-some _ (sym c.in-None.is ∙ c.replace.ensures.value ∙ sym at ∙ c.requires.1)

pub unreachable-requires : goal.unreachable-requires
unreachable-requires g c =
    let at = read_there _ c.args.i c.requires.0 c.requires.1 _ c.index_mut.ensures.value in
    let there = same_Some _ _ (sym c.requires.1 ∙ at ∙ sym c.replace.ensures.value ∙ c.in-Some.is) in
    subst IsEnded (ap (λ m. m.inst) there ∙ c.in-Running.is) c.requires.2

pub end_absent-requires : goal.end_absent-requires
end_absent-requires g c =
    let at = read_there _ c.args.i c.requires.0 c.requires.1 _ c.index_mut.ensures.value in
    let there = same_Some _ _ (sym c.requires.1 ∙ at ∙ sym c.replace.ensures.value ∙ c.in-Some.is) in
    c.finish.ensures ∙ subst IsEnded (ap (λ m. m.inst) there ∙ c.in-Idling.is) c.requires.2
