use Rattle.std.proofs.Common.{◌≡◌, refl, sym, ◌∙◌}
use Rattle.std.proofs.lemmas.Option.{same_Some}
use Rattle.host_table.proofs.Changes.{read_there}
use Rattle.host_table.proofs.member.make_active.Goals as goal

pub returns : goal.returns
returns g c m at =
    let same : c.in-Some.member ≡ m = same_Some _ _ (sym c.in-Some.is ∙ sym (read_there c.args.instances.now.items c.args.i m at _ c.index_mut.ensures.value) ∙ at) in
    rw (c.replace_with.ensures, same) refl
