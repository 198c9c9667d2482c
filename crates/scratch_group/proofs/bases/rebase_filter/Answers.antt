use Rattle.std.proofs.Common.{sym, ◌∙◌}
use Rattle.record_loans.specs.Pieces.{no_pieces}
use Rattle.mem_rec.specs.declared.Space.TheVariants.{Daram}
use Rattle.scratch_group.specs.Filters.{filter_sizes_in}
use Rattle.scratch_group.specs.Words.{record_place}
use Rattle.scratch_group.proofs.Tables.{three_bases}
use Rattle.scratch_group.proofs.Filters.{object_begins, kept_begins, running_begins, some_kept, some_running}
use Rattle.scratch_group.proofs.bases.rebase_filter.Goals as goal

pub place-object-requires-clause-space : goal.place-object-requires-clause-space
place-object-requires-clause-space c = c.requires.spaces.own_space 0

pub place-kept-requires-clause-some : goal.place-kept-requires-clause-some
place-kept-requires-clause-some c =
    let rs = c.args.table.now in
    some_kept rs (filter_sizes_in rs) c.requires.table c.requires.filter c.args.own.now no_pieces c.args.group.now c.requires.sizes

pub place-kept-requires-clause-space : goal.place-kept-requires-clause-space
place-kept-requires-clause-space c = c.requires.spaces.own_space 1

pub place_in-running-requires-clause-inside : goal.place_in-running-requires-clause-inside
place_in-running-requires-clause-inside c =
    let rs = c.args.table.now in
    some_running rs (filter_sizes_in rs) c.requires.table c.requires.filter c.args.own.now no_pieces c.args.group.now c.requires.sizes

pub place_in-running-requires-clause-space : goal.place_in-running-requires-clause-space
place_in-running-requires-clause-space c = c.requires.spaces.block_space Daram

pub returns : goal.returns
returns c =
    let rs = c.args.table.now in
    let own = c.args.own.now in
    let group = c.args.group.now in
    let object = object_begins rs (filter_sizes_in rs) c.requires.table c.requires.filter own no_pieces group in
    let kept = kept_begins rs (filter_sizes_in rs) c.requires.table c.requires.filter own no_pieces group in
    let running = running_begins rs (filter_sizes_in rs) c.requires.table c.requires.filter own no_pieces group in
    let all =
    three_bases rs (record_place rs own no_pieces group)
    c.place-object.result c.place-kept.result c.place_in-running.result c.requires.filter.three
    (c.place-object.ensures ∙ sym object) (c.place-kept.ensures ∙ sym kept) (c.place_in-running.ensures ∙ sym running) in
    cc
