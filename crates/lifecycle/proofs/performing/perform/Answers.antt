use Rattle.std.proofs.Common.{◌≡◌, false, Option, rules, refl, sym, subst, arith}
use Rattle.space_raw.specs.Span.{Span}
use Rattle.record_loans.specs.declared.pieces.Pieces.{Pieces}
use Rattle.record_loans.specs.Pieces.{no_pieces, only_second, only_third, IsSamePiece}
use Rattle.record_loans.proofs.PieceLemmas.{same_pieces}
use Rattle.scratch_group.specs.Filters.{IsFilter}
use Rattle.scratch_group.specs.Readers.{IsReader}
use Rattle.scratch_group.specs.Sharing.{IsSharingFilter}
use Rattle.host_shared.specs.Locations.{piece_seen, shared_at}
use Rattle.host_shared.proofs.Bare.{seen_again, seen_over, locations_over}
use Rattle.host_shared.proofs.AtOwners.{seen_back, locations_back, seen_there, not_elsewhere, put_there}
use Rattle.lifecycle.proofs.LentAlike.{filter_alike, reader_alike, sharing_alike, planned_alike, words_alike, active_done}
use Rattle.lifecycle.proofs.performing.perform.Goals as goal

-- ---- a filter: the words are the same, whatever pieces are lent

pub lend_filtering-requires-clause-sizes : goal.lend_filtering-requires-clause-sizes
lend_filtering-requires-clause-sizes g c =
    let rs = c.args.place.now.table.now in
    let seen : Pieces = shared_at c.args.sharing.now.items c.args.place.now.number in
    let is : IsFilter rs c.in-Filter.sizes = rw c.in-Filter.is at c.loan.ensures in
    words_alike rs c.table-table.result.now c.table-table.ensures c.args.own.now seen no_pieces c.args.group.now (filter_alike rs c.in-Filter.sizes is seen no_pieces) c.requires.sizes

pub returns-in-Filter-clause-done : goal.returns-in-Filter-clause-done
returns-in-Filter-clause-done g c =
    let rs = c.args.place.now.table.now in
    let seen : Pieces = shared_at c.args.sharing.now.items c.args.place.now.number in
    let is : IsFilter rs c.in-Filter.sizes = rw c.in-Filter.is at c.loan.ensures in
    let alike = filter_alike rs c.in-Filter.sizes is seen no_pieces in
    active_done rs c.table-table.result.now c.table-table.ensures (λ xs old new. g.S.Step.done c.args.step.now xs false old new c.args.out.now c.lend_filtering.new.out) c.args.own.now c.lend_filtering.new.own seen seen no_pieces no_pieces c.args.group.now c.lend_filtering.new.self alike alike c.lend_filtering.ensures.done

pub returns-in-Filter-clause-shared : goal.returns-in-Filter-clause-shared
returns-in-Filter-clause-shared g c = same_pieces (shared_at c.args.sharing.now.items c.args.place.now.number)

pub returns-in-Filter-clause-seen : goal.returns-in-Filter-clause-seen
returns-in-Filter-clause-seen g c = sym (seen_again c.args.sharing.now.items c.args.place.now.number c.requires.owners)

-- ---- a reader: the words are those of the second piece, where it stands

pub index_mut-requires : goal.index_mut-requires
index_mut-requires g c = let inside = (c.requires.owners 1).inside in rw c.owner-at.ensures (search (inside, rules))

pub lend_reading-requires-clause-sizes : goal.lend_reading-requires-clause-sizes
lend_reading-requires-clause-sizes g c =
    let rs = c.args.place.now.table.now in
    let n = c.in-Reader.sizes in
    let sharing = c.args.sharing.now.items in
    let i = c.args.place.now.number in
    let is : IsReader rs n = rw c.in-Reader.is at c.loan.ensures in
    let was : c.in-Here.once ≡ piece_seen sharing i 1 =
    seen_there sharing i 1 c.owner-at.result c.requires.owners c.owner-at.ensures c.index_mut.result.now c.index_mut.ensures.value c.in-Here.once c.in-Here.is in
    words_alike rs c.table-table.result.now c.table-table.ensures c.args.own.now (shared_at sharing i) (only_second c.in-Here.once) c.args.group.now (reader_alike rs n is (shared_at sharing i) c.in-Here.once was) c.requires.sizes

pub unreachable-requires : goal.unreachable-requires
unreachable-requires g c = not_elsewhere c.args.sharing.now.items c.args.place.now.number 1 c.owner-at.result c.requires.owners c.owner-at.ensures c.index_mut.result.now c.index_mut.ensures.value c.in-At._owner c.in-At.is

pub returns-in-Here-clause-done : goal.returns-in-Here-clause-done
returns-in-Here-clause-done g c =
    let rs = c.args.place.now.table.now in
    let n = c.in-Reader.sizes in
    let sharing = c.args.sharing.now.items in
    let i = c.args.place.now.number in
    let seen : Pieces = shared_at sharing i in
    let once' : Option Span = c.lend_reading.new.once in
    let is : IsReader rs n = rw c.in-Reader.is at c.loan.ensures in
    let was : c.in-Here.once ≡ piece_seen sharing i 1 =
    seen_there sharing i 1 c.owner-at.result c.requires.owners c.owner-at.ensures c.index_mut.result.now c.index_mut.ensures.value c.in-Here.once c.in-Here.is in
    let after = seen_over sharing i 1 once' c.requires.owners (omega arith) _
    (put_there sharing i 1 c.owner-at.result c.requires.owners c.owner-at.ensures c.index_mut.result.now c.index_mut.ensures.value once') in
    rw after
    (active_done rs c.table-table.result.now c.table-table.ensures (λ xs old new. g.S.Step.done c.args.step.now xs false old new c.args.out.now c.lend_reading.new.out) c.args.own.now c.lend_reading.new.own seen (record seen { p1 = once' }) (only_second c.in-Here.once) (only_second once') c.args.group.now c.args.group.now
    (reader_alike rs n is seen c.in-Here.once was) (reader_alike rs n is (record seen { p1 = once' }) once' refl)
    c.lend_reading.ensures.done)

pub returns-in-Here-clause-shared : goal.returns-in-Here-clause-shared
returns-in-Here-clause-shared g c =
    let sharing = c.args.sharing.now.items in
    let i = c.args.place.now.number in
    let once' : Option Span = c.lend_reading.new.once in
    let stays = same_pieces (shared_at sharing i) in
    let was : c.in-Here.once ≡ piece_seen sharing i 1 =
    seen_there sharing i 1 c.owner-at.result c.requires.owners c.owner-at.ensures c.index_mut.result.now c.index_mut.ensures.value c.in-Here.once c.in-Here.is in
    let after = seen_over sharing i 1 once' c.requires.owners (omega arith) _
    (put_there sharing i 1 c.owner-at.result c.requires.owners c.owner-at.ensures c.index_mut.result.now c.index_mut.ensures.value once') in
    let same = subst (λ (p : Option Span). IsSamePiece p once') was c.lend_reading.ensures.once in
    rw after (record { p0 = stays.p0; p1 = same; p2 = stays.p2; p3 = stays.p3 })

pub returns-in-Here-clause-seen : goal.returns-in-Here-clause-seen
returns-in-Here-clause-seen g c =
    let sharing = c.args.sharing.now.items in
    let i = c.args.place.now.number in
    locations_over sharing i 1 c.lend_reading.new.once c.requires.owners (omega arith) _
    (put_there sharing i 1 c.owner-at.result c.requires.owners c.owner-at.ensures c.index_mut.result.now c.index_mut.ensures.value c.lend_reading.new.once)

-- ---- a filter that shares its constants: those of the third piece, where it stands

pub index_mut-requires-in-Sharing : goal.index_mut-requires-in-Sharing
index_mut-requires-in-Sharing g c = let inside = (c.requires.owners 2).inside in rw c.owner-at-in-Sharing.ensures (search (inside, rules))

pub lend_sharing-requires-clause-sizes : goal.lend_sharing-requires-clause-sizes
lend_sharing-requires-clause-sizes g c =
    let rs = c.args.place.now.table.now in
    let n = c.in-Sharing.sizes in
    let sharing = c.args.sharing.now.items in
    let i = c.args.place.now.number in
    let is : IsSharingFilter rs n = rw c.in-Sharing.is at c.loan.ensures in
    let was : c.in-Here-s2.once ≡ piece_seen sharing i 2 =
    seen_there sharing i 2 c.owner-at-in-Sharing.result c.requires.owners c.owner-at-in-Sharing.ensures c.index_mut-in-Sharing.result.now c.index_mut-in-Sharing.ensures.value c.in-Here-s2.once c.in-Here-s2.is in
    words_alike rs c.table-table.result.now c.table-table.ensures c.args.own.now (shared_at sharing i) (only_third c.in-Here-s2.once) c.args.group.now (sharing_alike rs n is (shared_at sharing i) c.in-Here-s2.once was) c.requires.sizes

pub unreachable-requires-in-At-s2 : goal.unreachable-requires-in-At-s2
unreachable-requires-in-At-s2 g c = not_elsewhere c.args.sharing.now.items c.args.place.now.number 2 c.owner-at-in-Sharing.result c.requires.owners c.owner-at-in-Sharing.ensures c.index_mut-in-Sharing.result.now c.index_mut-in-Sharing.ensures.value c.in-At-s2._owner c.in-At-s2.is

pub returns-in-Here-s2-clause-done : goal.returns-in-Here-s2-clause-done
returns-in-Here-s2-clause-done g c =
    let rs = c.args.place.now.table.now in
    let n = c.in-Sharing.sizes in
    let sharing = c.args.sharing.now.items in
    let i = c.args.place.now.number in
    let seen : Pieces = shared_at sharing i in
    let once' : Option Span = c.lend_sharing.new.once in
    let is : IsSharingFilter rs n = rw c.in-Sharing.is at c.loan.ensures in
    let was : c.in-Here-s2.once ≡ piece_seen sharing i 2 =
    seen_there sharing i 2 c.owner-at-in-Sharing.result c.requires.owners c.owner-at-in-Sharing.ensures c.index_mut-in-Sharing.result.now c.index_mut-in-Sharing.ensures.value c.in-Here-s2.once c.in-Here-s2.is in
    let after = seen_over sharing i 2 once' c.requires.owners (omega arith) _
    (put_there sharing i 2 c.owner-at-in-Sharing.result c.requires.owners c.owner-at-in-Sharing.ensures c.index_mut-in-Sharing.result.now c.index_mut-in-Sharing.ensures.value once') in
    rw after
    (active_done rs c.table-table.result.now c.table-table.ensures (λ xs old new. g.S.Step.done c.args.step.now xs false old new c.args.out.now c.lend_sharing.new.out) c.args.own.now c.lend_sharing.new.own seen (record seen { p2 = once' }) (only_third c.in-Here-s2.once) (only_third once') c.args.group.now c.lend_sharing.new.self
    (sharing_alike rs n is seen c.in-Here-s2.once was) (sharing_alike rs n is (record seen { p2 = once' }) once' refl)
    c.lend_sharing.ensures.done)

pub returns-in-Here-s2-clause-shared : goal.returns-in-Here-s2-clause-shared
returns-in-Here-s2-clause-shared g c =
    let sharing = c.args.sharing.now.items in
    let i = c.args.place.now.number in
    let once' : Option Span = c.lend_sharing.new.once in
    let stays = same_pieces (shared_at sharing i) in
    let was : c.in-Here-s2.once ≡ piece_seen sharing i 2 =
    seen_there sharing i 2 c.owner-at-in-Sharing.result c.requires.owners c.owner-at-in-Sharing.ensures c.index_mut-in-Sharing.result.now c.index_mut-in-Sharing.ensures.value c.in-Here-s2.once c.in-Here-s2.is in
    let after = seen_over sharing i 2 once' c.requires.owners (omega arith) _
    (put_there sharing i 2 c.owner-at-in-Sharing.result c.requires.owners c.owner-at-in-Sharing.ensures c.index_mut-in-Sharing.result.now c.index_mut-in-Sharing.ensures.value once') in
    let same = subst (λ (p : Option Span). IsSamePiece p once') was c.lend_sharing.ensures.once in
    rw after (record { p0 = stays.p0; p1 = stays.p1; p2 = same; p3 = stays.p3 })

pub returns-in-Here-s2-clause-seen : goal.returns-in-Here-s2-clause-seen
returns-in-Here-s2-clause-seen g c =
    let sharing = c.args.sharing.now.items in
    let i = c.args.place.now.number in
    locations_over sharing i 2 c.lend_sharing.new.once c.requires.owners (omega arith) _
    (put_there sharing i 2 c.owner-at-in-Sharing.result c.requires.owners c.owner-at-in-Sharing.ensures c.index_mut-in-Sharing.result.now c.index_mut-in-Sharing.ensures.value c.lend_sharing.new.once)

-- ---- every other instance: the pieces are borrowed and given back

pub lend-requires-clause-sizes : goal.lend-requires-clause-sizes
lend-requires-clause-sizes g c =
    let rs = c.args.place.now.table.now in
    let seen : Pieces = shared_at c.args.sharing.now.items c.args.place.now.number in
    words_alike rs c.table-table.result.now c.table-table.ensures c.args.own.now seen c.borrow_pieces-shared.result c.args.group.now (planned_alike rs seen c.borrow_pieces-shared.result c.borrow_pieces-shared.ensures.pieces) c.requires.sizes

pub returns-in-Planned-clause-done : goal.returns-in-Planned-clause-done
returns-in-Planned-clause-done g c =
    let rs = c.args.place.now.table.now in
    let seen : Pieces = shared_at c.args.sharing.now.items c.args.place.now.number in
    let back = seen_back c.args.place.now.number c.args.sharing.now.items c.borrow_pieces-shared.new.sharing.items c.give_back_pieces.new.sharing.items c.requires.owners c.lend.new.shared c.borrow_pieces-shared.ensures.left c.give_back_pieces.ensures in
    active_done rs c.table-table.result.now c.table-table.ensures (λ xs old new. g.S.Step.done c.args.step.now xs false old new c.args.out.now c.lend.new.out) c.args.own.now c.lend.new.own seen _ c.borrow_pieces-shared.result c.lend.new.shared c.args.group.now c.lend.new.self
    (planned_alike rs seen c.borrow_pieces-shared.result c.borrow_pieces-shared.ensures.pieces) (planned_alike rs _ c.lend.new.shared (sym back))
    c.lend.ensures.done

pub returns-in-Planned-clause-shared : goal.returns-in-Planned-clause-shared
returns-in-Planned-clause-shared g c = rw (seen_back c.args.place.now.number c.args.sharing.now.items c.borrow_pieces-shared.new.sharing.items c.give_back_pieces.new.sharing.items c.requires.owners c.lend.new.shared c.borrow_pieces-shared.ensures.left c.give_back_pieces.ensures, ← c.borrow_pieces-shared.ensures.pieces) c.lend.ensures.shared

pub returns-in-Planned-clause-seen : goal.returns-in-Planned-clause-seen
returns-in-Planned-clause-seen g c = locations_back c.args.place.now.number c.args.sharing.now.items c.borrow_pieces-shared.new.sharing.items c.give_back_pieces.new.sharing.items c.requires.owners c.lend.new.shared c.borrow_pieces-shared.ensures.left c.give_back_pieces.ensures
