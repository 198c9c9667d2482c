use Rattle.std.proofs.Common.{set, length-set, true, ◌∙◌, refl, subst, sym, arith}
use Rattle.std.proofs.lemmas.Bool.{false≢true}
use Rattle.octet_ports.specs.Passing.{HasRoom}
use Rattle.octet_ports.proofs.PassLemmas.{gets_at, marked_last, one_more_mark, waits_last}
use Rattle.octet_ports.proofs.journal.Journal.put_output.Goals as goal

pub push-requires : goal.push-requires
push-requires g c = record { room = c.in_ok-make_room_at.ensures.marks (refl {a = true}) }

pub returns-clause-count : goal.returns-clause-count
returns-clause-count g c = let count = c.take_some-count.ensures.count in omega (arith, count)

pub returns-clause-some : goal.returns-clause-some
returns-clause-some g c = λ some.
    let count = c.take_some-count.ensures.count in
    let room = subst HasRoom (sym c.index_mut.ensures.value) (c.in_ok-make_room_at.ensures.room (refl {a = true}) c.index_mut.result.now) in
    omega (arith, some, count, room)

pub returns-clause-waits : goal.returns-clause-waits
returns-clause-waits g c = waits_last c.args.number _ _ c.index_mut.result.now _ (rw c.make_room_at.ensures.count c.requires) c.take_some-count.ensures.octets

pub returns-clause-gets : goal.returns-clause-gets
returns-clause-gets g c =
    let taken = c.take_some-count.ensures in
    gets_at g.W.Write.contents c.args.number _ c.args.self.now.outputs.items _ c.index_mut.result.now _ (c.in_ok-make_room_at.ensures.kept (refl {a = true})).0
    (rw c.make_room_at.ensures.count c.requires) c.index_mut.ensures.value taken.octets taken.writer

pub returns-clause-replies : goal.returns-clause-replies
returns-clause-replies g c = λ _. (c.in_ok-make_room_at.ensures.kept (refl {a = true})).1

pub returns-clause-passing : goal.returns-clause-passing
returns-clause-passing g c = c.make_room_at.ensures.passing

pub returns-clause-failed : goal.returns-clause-failed
returns-clause-failed g c = c.in_ok-make_room_at.ensures.failed

pub returns-clause-lasts : goal.returns-clause-lasts
returns-clause-lasts g c = λ failed. absurd (false≢true (sym c.if-self.false ∙ failed))

pub returns-clause-marked : goal.returns-clause-marked
returns-clause-marked g c = λ _.
    let made = c.make_room_at.new.self in
    let outputs = set made.outputs.items c.args.number c.take_some-count.new.self in
    marked_last c.args.number outputs c.index.result.now made.replies _ c.push.new.self.items _
    c.push.ensures.items refl c.len-before.ensures (rw (length-set, c.make_room_at.ensures.count) c.requires) c.index.ensures c.len-least.ensures

pub returns-clause-remembers : goal.returns-clause-remembers
returns-clause-remembers g c = λ _.
    let made = c.make_room_at.new.self in
    one_more_mark c.args.number c.args.self.now.marks.items made.marks.items c.push.new.self.items made.outputs.items c.take_some-count.new.self _
    (c.in_ok-make_room_at.ensures.remembers (refl {a = true})) c.push.ensures.items
