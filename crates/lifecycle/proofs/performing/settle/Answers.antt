use Rattle.std.proofs.Common.{◌≡◌, ◌∙◌, Option, rules, refl, sym, ap, subst}
use Rattle.space_raw.specs.Span.{Span}
use Rattle.record_loans.specs.declared.pieces.Pieces.{Pieces}
use Rattle.record_loans.specs.Pieces.{no_pieces, only_third}
use Rattle.scratch_group.specs.Filters.{IsFilter}
use Rattle.scratch_group.specs.Sharing.{IsSharingFilter}
use Rattle.scratch_group.specs.Words.{placed, InSpaces}
use Rattle.scratch_group.proofs.Filters.{filter_sizes_of, none_once_of}
use Rattle.scratch_group.proofs.Sharing.{sizes_of}
use Rattle.scratch_group.proofs.Thirds.{once_third}
use Rattle.host_shared.specs.Locations.{piece_seen, shared_at}
use Rattle.host_shared.proofs.AtOwners.{all_back, seen_there, not_elsewhere}
use Rattle.lifecycle.proofs.LentAlike.{filter_alike, sharing_alike, words_alike}
use Rattle.lifecycle.proofs.PlacedAlike.{placed_without, placed_third, without_in_spaces, third_in_spaces}
use Rattle.lifecycle.proofs.performing.settle.Goals as goal

pub rebase_filter-requires-clause-filter : goal.rebase_filter-requires-clause-filter
rebase_filter-requires-clause-filter c =
    let is : IsFilter c.args.table.now c.in-Filter._sizes = rw c.in-Filter.is at c.loan.ensures in
    record { table = is.table; sizes = filter_sizes_of c.args.table.now c.in-Filter._sizes is.sizes }

pub rebase_filter-requires-clause-sizes : goal.rebase_filter-requires-clause-sizes
rebase_filter-requires-clause-sizes c =
    let rs = c.args.table.now in
    let seen : Pieces = shared_at c.args.sharing.now.items c.args.number in
    let is : IsFilter rs c.in-Filter._sizes = rw c.in-Filter.is at c.loan.ensures in
    words_alike rs rs refl c.args.own.now seen no_pieces c.args.group.now (filter_alike rs c.in-Filter._sizes is seen no_pieces) c.requires.sizes

pub rebase_filter-requires-clause-spaces : goal.rebase_filter-requires-clause-spaces
rebase_filter-requires-clause-spaces c = without_in_spaces c.args.own.now (shared_at c.args.sharing.now.items c.args.number) c.args.group.now c.requires.spaces

pub returns-in-Filter-clause-table : goal.returns-in-Filter-clause-table
returns-in-Filter-clause-table c =
    let rs = c.args.table.now in
    let seen : Pieces = shared_at c.args.sharing.now.items c.args.number in
    let is : IsFilter rs c.in-Filter._sizes = rw c.in-Filter.is at c.loan.ensures in
    c.rebase_filter.ensures ∙ placed_without rs c.args.own.now no_pieces seen c.args.group.now (none_once_of rs c.in-Filter._sizes is.table is.sizes)

pub index-requires : goal.index-requires
index-requires c = let inside = (c.requires.owners 2).inside in rw c.owner-at.ensures (search (inside, rules))

pub unreachable-requires : goal.unreachable-requires
unreachable-requires c = not_elsewhere c.args.sharing.now.items c.args.number 2 c.owner-at.result c.requires.owners c.owner-at.ensures c.index.result.now c.index.ensures c.in-At._owner c.in-At.is

pub rebase_sharing-requires-clause-sharing : goal.rebase_sharing-requires-clause-sharing
rebase_sharing-requires-clause-sharing c =
    let is : IsSharingFilter c.args.table.now c.in-Sharing._sizes = rw c.in-Sharing.is at c.loan.ensures in
    record { table = is.table; sizes = sizes_of c.args.table.now c.in-Sharing._sizes is.sizes }

pub rebase_sharing-requires-clause-sizes : goal.rebase_sharing-requires-clause-sizes
rebase_sharing-requires-clause-sizes c =
    let rs = c.args.table.now in
    let sharing = c.args.sharing.now.items in
    let seen : Pieces = shared_at sharing c.args.number in
    let is : IsSharingFilter rs c.in-Sharing._sizes = rw c.in-Sharing.is at c.loan.ensures in
    let was : c.in-Here.once ≡ piece_seen sharing c.args.number 2 =
    seen_there sharing c.args.number 2 c.owner-at.result c.requires.owners c.owner-at.ensures c.index.result.now c.index.ensures c.in-Here.once c.in-Here.is in
    words_alike rs rs refl c.args.own.now seen (only_third c.in-Here.once) c.args.group.now (sharing_alike rs c.in-Sharing._sizes is seen c.in-Here.once was) c.requires.sizes

pub rebase_sharing-requires-clause-spaces : goal.rebase_sharing-requires-clause-spaces
rebase_sharing-requires-clause-spaces c =
    let sharing = c.args.sharing.now.items in
    let seen : Pieces = shared_at sharing c.args.number in
    let was : c.in-Here.once ≡ piece_seen sharing c.args.number 2 =
    seen_there sharing c.args.number 2 c.owner-at.result c.requires.owners c.owner-at.ensures c.index.result.now c.index.ensures c.in-Here.once c.in-Here.is in
    subst (λ (p : Option Span). InSpaces c.args.own.now (only_third p) c.args.group.now) (sym was) (third_in_spaces c.args.own.now seen c.args.group.now c.requires.spaces)

pub returns-in-Here-clause-table : goal.returns-in-Here-clause-table
returns-in-Here-clause-table c =
    let rs = c.args.table.now in
    let sharing = c.args.sharing.now.items in
    let seen : Pieces = shared_at sharing c.args.number in
    let is : IsSharingFilter rs c.in-Sharing._sizes = rw c.in-Sharing.is at c.loan.ensures in
    let was : c.in-Here.once ≡ piece_seen sharing c.args.number 2 =
    seen_there sharing c.args.number 2 c.owner-at.result c.requires.owners c.owner-at.ensures c.index.result.now c.index.ensures c.in-Here.once c.in-Here.is in
    c.rebase_sharing.ensures ∙ ap (λ (p : Option Span). placed rs c.args.own.now (only_third p) c.args.group.now) was
    ∙ placed_third rs c.args.own.now seen c.args.group.now (once_third rs c.in-Sharing._sizes is.table is.sizes)

pub returns-in_default-clause-sharing : goal.returns-in_default-clause-sharing
returns-in_default-clause-sharing c =
    all_back c.args.number c.args.sharing.now.items c.borrow_pieces-shared.new.sharing.items c.give_back_pieces.new.sharing.items c.requires.owners c.borrow_pieces-shared.result
    c.borrow_pieces-shared.ensures.left c.give_back_pieces.ensures c.borrow_pieces-shared.ensures.pieces
