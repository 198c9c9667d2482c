use Rattle.std.proofs.Common.{rules, ◌≡◌, refl}
use Rattle.dsp_library.specs.Codes.{poison_of}
use Rattle.dsp_library.proofs.handle.rokdaum_proved_open.Goals as goal

pub returns-in-Ok-clause-opened : goal.returns-in-Ok-clause-opened
returns-in-Ok-clause-opened c =
    let word : c.if-options-eq0.poison ≡ poison_of c.args.options.now.poisoned c.args.options.now.poison = search rules in
    λ done. (refl, (c.in-Ok.machine.value, c.put.ensures.machine, rw word at c.in-Ok.ensures.refines))
