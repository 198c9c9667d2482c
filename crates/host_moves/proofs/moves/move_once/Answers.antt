use Rattle.std.proofs.Common.{refl, arith}
use Rattle.std.proofs.lemmas.Bool.{eq-eqb}
use Rattle.host_map.specs.declared.placed.Owner.TheVariants.{Record}
use Rattle.host_moves.specs.Moves.{told_where}
use Rattle.host_moves.specs.Waiting.{holds_with, slid_to}
use Rattle.host_moves.proofs.Hears.{once_told}
use Rattle.host_moves.proofs.Logs.{relogged}
use Rattle.host_map.specs.MemoryMap.{blocks_in}
use Rattle.host_spaces.specs.MemoryMap.{map_of}
use Rattle.host_shared.proofs.Lent.{owners_of_all}
use Rattle.host_table.proofs.Held.{owners_of_held}
use Rattle.host_moves.proofs.Seen.{words_at_rest, words_seen}
use Rattle.host_moves.proofs.BlockMoves.{record_number}
use Rattle.host_moves.proofs.Nexts.{next_record}
use Rattle.host_moves.proofs.Owners.{standing_stays}
use Rattle.host_moves.proofs.OwnMoves.{kind_itself, then_same, same_sizes, words_copied}
use Rattle.host_moves.proofs.OnceMoves.{next_is, region_is, range_is, below, inside_away, empty_there, back_is, holds_now, least_now, waiting_now, stands, words_now}
use Rattle.host_moves.proofs.moves.move_once.Goals as goal
use Rattle.host_moves.proofs.moves.move_once.Goals.{After-put_moved}

pub take_to_move-piece-requires-clause-owners : goal.take_to_move-piece-requires-clause-owners
take_to_move-piece-requires-clause-owners g c = owners_of_all _ c.args.i (owners_of_held _ _ (rw (← c.tables.view_is) at c.requires.ok).held) (rw (← c.tables.view_is) at c.requires.number)

pub take_to_move-piece-requires-clause-record : goal.take_to_move-piece-requires-clause-record
take_to_move-piece-requires-clause-record g c =
    record_number _ _ c.args.spaces.now c.args.space c.args.i c.args.k (next_record _ _ _ c.args.spaces.now c.args.space c.args.i c.args.k (rw (← c.tables.view_is) at c.requires.standing) c.requires.next)

pub take_to_move-piece-requires-clause-owner : goal.take_to_move-piece-requires-clause-owner
take_to_move-piece-requires-clause-owner g c = (next_record _ _ _ c.args.spaces.now c.args.space c.args.i c.args.k (rw (← c.tables.view_is) at c.requires.standing) c.requires.next).here

pub put_moved-requires-clause-number : goal.put_moved-requires-clause-number
put_moved-requires-clause-number g c = rw c.take_to_move-piece.ensures.left (inside_away _ _ _ _ _ c.args.i c.args.k _ (rw (← c.tables.view_is) at c.requires.ok) (rw (← c.tables.view_is) at c.requires.standing) c.requires.next (rw (← c.tables.view_is) at c.requires.number) c.take_to_move-piece.ensures.piece)

pub put_moved-requires-clause-record : goal.put_moved-requires-clause-record
put_moved-requires-clause-record g c = below _ _ _ _ _ c.args.i c.args.k _ (rw (← c.tables.view_is) at c.requires.ok) (rw (← c.tables.view_is) at c.requires.standing) c.requires.next (rw (← c.tables.view_is) at c.requires.number) c.take_to_move-piece.ensures.piece

pub put_moved-requires-clause-empty : goal.put_moved-requires-clause-empty
put_moved-requires-clause-empty g c = rw c.take_to_move-piece.ensures.left (empty_there _ _ _ _ _ c.args.i c.args.k _ (rw (← c.tables.view_is) at c.requires.ok) (rw (← c.tables.view_is) at c.requires.standing) c.requires.next (rw (← c.tables.view_is) at c.requires.number) c.take_to_move-piece.ensures.piece)

pub put_moved-requires-clause-owners : goal.put_moved-requires-clause-owners
put_moved-requires-clause-owners g c = c.take_to_move-piece.ensures.owners

pub make_move-moved-requires-clause-region : goal.make_move-moved-requires-clause-region
make_move-moved-requires-clause-region g c =
    region_is _ _ _ _ _ c.args.i c.args.k _ (rw (← c.tables.view_is) at c.requires.ok) (rw (← c.tables.view_is) at c.requires.standing) c.requires.next (rw (← c.tables.view_is) at c.requires.number) c.take_to_move-piece.ensures.piece

pub make_move-moved-requires-clause-next : goal.make_move-moved-requires-clause-next
make_move-moved-requires-clause-next g c =
    range_is _ _ _ _ _ c.args.i c.args.k _ (rw (← c.tables.view_is) at c.requires.ok) (rw (← c.tables.view_is) at c.requires.standing) c.requires.next (rw (← c.tables.view_is) at c.requires.number) c.take_to_move-piece.ensures.piece

pub call_moved_of_sharers-requires-clause-number : goal.call_moved_of_sharers-requires-clause-number
call_moved_of_sharers-requires-clause-number g c =
    let count = (rw (← c.tables.view_is) at c.requires.ok).sharing_count in
    let inside = rw (← c.tables.view_is) at c.requires.number in
    omega (arith, count, inside)

pub call_moved_of_sharers-requires-clause-least : goal.call_moved_of_sharers-requires-clause-least
call_moved_of_sharers-requires-clause-least g c =
    rw (c.put_moved.ensures.back, c.take_to_move-piece.ensures.left, back_is _ _ _ _ _ c.args.i c.args.k _ (rw (← c.tables.view_is) at c.requires.ok) (rw (← c.tables.view_is) at c.requires.standing) c.requires.next (rw (← c.tables.view_is) at c.requires.number) c.take_to_move-piece.ensures.piece c.make_move-moved.result)
    (least_now _ _ _ _ _ c.args.i c.args.k _ (rw (← c.tables.view_is) at c.requires.ok) (rw (← c.tables.view_is) at c.requires.standing) c.requires.next (rw (← c.tables.view_is) at c.requires.number) c.take_to_move-piece.ensures.piece c.make_move-moved.result)

pub call_moved_of_sharers-requires-clause-waiting : goal.call_moved_of_sharers-requires-clause-waiting
call_moved_of_sharers-requires-clause-waiting g c =
    rw (c.put_moved.ensures.back, c.take_to_move-piece.ensures.left, back_is _ _ _ _ _ c.args.i c.args.k _ (rw (← c.tables.view_is) at c.requires.ok) (rw (← c.tables.view_is) at c.requires.standing) c.requires.next (rw (← c.tables.view_is) at c.requires.number) c.take_to_move-piece.ensures.piece c.make_move-moved.result)
    (waiting_now _ _ _ _ _ c.args.i c.args.k _ (rw (← c.tables.view_is) at c.requires.ok) (rw (← c.tables.view_is) at c.requires.standing) c.requires.next (rw (← c.tables.view_is) at c.requires.number) c.take_to_move-piece.ensures.piece c.make_move-moved.result _
    c.make_move-moved.ensures.owned c.make_move-moved.ensures.others c.make_move-moved.ensures.elsewhere c.make_move-moved.ensures.regions
    c.make_move-moved.ensures.words.0 c.make_move-moved.ensures.words.1 c.in_order.ensures)

pub returns : goal.returns
returns g c =
    rw (← c.tables.view_is)
    (let once_is = c.put_moved.ensures.back in
    let back = back_is _ _ _ _ _ c.args.i c.args.k _ (rw (← c.tables.view_is) at c.requires.ok) (rw (← c.tables.view_is) at c.requires.standing) c.requires.next (rw (← c.tables.view_is) at c.requires.number) c.take_to_move-piece.ensures.piece c.make_move-moved.result in
    let same = rw (once_is, c.take_to_move-piece.ensures.left, back) at c.call_moved_of_sharers.ensures.same in
    let keeps = rw (once_is, c.take_to_move-piece.ensures.left, back) at c.call_moved_of_sharers.ensures.keeps in
    let location = stands _ _ _ _ _ c.args.i c.args.k _ (rw (← c.tables.view_is) at c.requires.ok) (rw (← c.tables.view_is) at c.requires.standing) c.requires.next (rw (← c.tables.view_is) at c.requires.number) c.take_to_move-piece.ensures.piece c.make_move-moved.result _
    c.make_move-moved.ensures.owned c.make_move-moved.ensures.others c.make_move-moved.ensures.elsewhere c.make_move-moved.ensures.regions
    c.make_move-moved.ensures.words.0 c.make_move-moved.ensures.words.1 in
    let words = words_now _ _ _ _ _ c.args.i c.args.k _ (rw (← c.tables.view_is) at c.requires.ok) (rw (← c.tables.view_is) at c.requires.standing) c.requires.next (rw (← c.tables.view_is) at c.requires.number) c.take_to_move-piece.ensures.piece c.make_move-moved.result _
    c.make_move-moved.ensures.owned c.make_move-moved.ensures.others c.make_move-moved.ensures.elsewhere c.make_move-moved.ensures.regions
    c.make_move-moved.ensures.words.0 c.make_move-moved.ensures.words.1 in
    record {
      ok = c.call_moved_of_sharers.ensures.ok;
      standing = standing_stays same location;
      words = words_at_rest _ _ c.call_moved_of_sharers.ensures.inactive;
      same = then_same _ (λ j. kind_itself _) same;
      activity = c.call_moved_of_sharers.ensures.activity;
      map = c.make_move-moved.ensures.map;
      sizes = same_sizes _ _ c.make_move-moved.ensures.regions;
      copied = words_copied (blocks_in (map_of c.args.spaces.now) c.args.space) _ _ _ _ c.take_to_move-piece.result (next_is _ _ _ _ _ c.args.i c.args.k _ (rw (← c.tables.view_is) at c.requires.ok) (rw (← c.tables.view_is) at c.requires.standing) c.requires.next (rw (← c.tables.view_is) at c.requires.number) c.take_to_move-piece.ensures.piece) c.make_move-moved.ensures.copied;
      keeps = λ b next w logs before.
          let sharing = c.tables.inside.sharing.items in
          let slid = slid_to sharing c.args.i c.args.k c.make_move-moved.result in
          let its = next_record _ _ _ c.args.spaces.now c.args.space c.args.i c.args.k (rw (← c.tables.view_is) at c.requires.standing) c.requires.next in
          relogged g.M.Ialg.law w c.call_moved_of_sharers.new.tables (told_where (holds_with slid c.args.i c.args.k) logs) _
          (λ j.
          once_told c.tables.inside.instances.items sharing c.args.spaces.now c.args.space (Record c.args.i c.args.k) b c.requires.next next logs c.args.i c.args.k j slid refl
          (rw (← c.tables.view_is) at c.requires.shared) (eq-eqb _ c.args.i its.here)
          (holds_now _ _ _ _ _ c.args.i c.args.k _ (rw (← c.tables.view_is) at c.requires.ok) (rw (← c.tables.view_is) at c.requires.standing) c.requires.next (rw (← c.tables.view_is) at c.requires.number) c.take_to_move-piece.ensures.piece c.make_move-moved.result j))
          (keeps w logs (words_seen g.M.Ialg.law w logs (rw (← c.tables.view_is) at c.requires.ok) words before));
    })
