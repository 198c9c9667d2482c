use Rattle.std.proofs.Common.{◌≡◌, [], replicate, sym, subst}
use Rattle.host_spec.specs.State.{new_state}
use Rattle.dsp_library.specs.declared.machine.Machine.{Machine as MachineOf}
use Rattle.dsp_library.specs.Calls.{LibraryRefines}
use Rattle.dsp_library.proofs.handle.new_machine.Goals as goal

-- the laws of the kinds as one record are those of their set
pub returns-in-Ok-new-clause-refines : goal.returns-in-Ok-new-clause-refines
returns-in-Ok-new-clause-refines c =
    let kept : LibraryRefines c.new-channels.result (record { host = new_state c.args.sizes c.args.poison; chained = replicate c.args.channels [] }) =
    c.new-channels.ensures.refines _ c.in-Ok.ensures.host in
    let same : c.in-Ok-new.machine.value ≡ record { channels = c.new-channels.result; given = c.new-given.result } = c.in-Ok-new.ensures.ok in
    subst (λ (m : MachineOf). LibraryRefines m.channels (record { host = new_state c.args.sizes c.args.poison; chained = replicate c.args.channels [] })) (sym same) kept
