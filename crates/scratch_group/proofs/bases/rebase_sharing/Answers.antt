use Rattle.std.proofs.Common.{sym, ◌∙◌}
use Rattle.record_loans.specs.Pieces.{only_third}
use Rattle.mem_rec.specs.declared.Space.TheVariants.{Daram}
use Rattle.scratch_group.specs.Sharing.{sharing_sizes_in}
use Rattle.scratch_group.specs.Words.{record_place}
use Rattle.scratch_group.proofs.Tables.{all_bases}
use Rattle.scratch_group.proofs.Sharing.{object_begins, kept_begins, constants_begin, running_begins, some_kept, some_constants, some_running}
use Rattle.scratch_group.proofs.bases.rebase_sharing.Goals as goal

pub place-object-requires-clause-space : goal.place-object-requires-clause-space
place-object-requires-clause-space c = c.requires.spaces.own_space 0

pub place-kept-requires-clause-some : goal.place-kept-requires-clause-some
place-kept-requires-clause-some c =
    let rs = c.args.table.now in
    some_kept rs (sharing_sizes_in rs) c.requires.table c.requires.sharing c.args.own.now (only_third c.args.once.now) c.args.group.now c.requires.sizes

pub place-kept-requires-clause-space : goal.place-kept-requires-clause-space
place-kept-requires-clause-space c = c.requires.spaces.own_space 1

pub place_of-constants-requires-clause-some : goal.place_of-constants-requires-clause-some
place_of-constants-requires-clause-some c =
    let rs = c.args.table.now in
    some_constants rs (sharing_sizes_in rs) c.requires.table c.requires.sharing c.args.own.now (only_third c.args.once.now) c.args.group.now c.requires.sizes

pub place_of-constants-requires-clause-space : goal.place_of-constants-requires-clause-space
place_of-constants-requires-clause-space c = c.requires.spaces.shared_space 2

pub place_in-running-requires-clause-inside : goal.place_in-running-requires-clause-inside
place_in-running-requires-clause-inside c =
    let rs = c.args.table.now in
    some_running rs (sharing_sizes_in rs) c.requires.table c.requires.sharing c.args.own.now (only_third c.args.once.now) c.args.group.now c.requires.sizes

pub place_in-running-requires-clause-space : goal.place_in-running-requires-clause-space
place_in-running-requires-clause-space c = c.requires.spaces.block_space Daram

pub returns : goal.returns
returns c =
    let rs = c.args.table.now in
    let own = c.args.own.now in
    let once = only_third c.args.once.now in
    let group = c.args.group.now in
    let object = object_begins rs (sharing_sizes_in rs) c.requires.table c.requires.sharing own once group in
    let kept = kept_begins rs (sharing_sizes_in rs) c.requires.table c.requires.sharing own once group in
    let constants = constants_begin rs (sharing_sizes_in rs) c.requires.table c.requires.sharing own once group in
    let running = running_begins rs (sharing_sizes_in rs) c.requires.table c.requires.sharing own once group in
    let all =
    all_bases rs (record_place rs own once group)
    c.place-object.result c.place-kept.result c.place_of-constants.result c.place_in-running.result c.requires.table
    (λ there. c.place-object.ensures ∙ sym object) (λ there. c.place-kept.ensures ∙ sym kept)
    (λ there. c.place_of-constants.ensures ∙ sym constants) (λ there. c.place_in-running.ensures ∙ sym running) in
    cc
