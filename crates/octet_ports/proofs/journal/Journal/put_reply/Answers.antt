use Rattle.std.proofs.Common.{◌≡◌, ◌∙◌, false, true, inr, refl, sym, arith}
use Rattle.std.proofs.lemmas.Bool.{false≢true}
use Rattle.octet_ports.proofs.PassLemmas.{gets_last, gets_passed, loses_none_twice}
use Rattle.octet_ports.proofs.journal.Journal.put_reply.Goals as goal
use Rattle.octet_ports.proofs.journal.Journal.put_reply.Goals.{else-eq-via-then-eq+else-ends_line, else-eq-via-else-eq}

pub returns-in_ok-pass_on-clause-gets : goal.returns-in_ok-pass_on-clause-gets
returns-in_ok-pass_on-clause-gets g c =
    let old = c.args.self.now.replies in
    let grown = c.take_some-count.new.self in
    let kept = (c.in_ok-make_room_for_reply.ensures.kept (refl {a = true})).1 in
    let taken = c.take_some-count.ensures in
    let gets = gets_last g.R.Write.contents _ old c.make_room_for_reply.new.self.replies grown kept taken.octets taken.writer in
    gets_passed g.R.Write.contents _ old grown c.pass_on.new.self.replies gets (c.in_ok-pass_on.ensures.kept (refl {a = true})).1

pub returns-in_ok-pass_on-clause-outputs : goal.returns-in_ok-pass_on-clause-outputs
returns-in_ok-pass_on-clause-outputs g c = λ _.
    loses_none_twice g.W.Write.contents _ _ _ (c.in_ok-make_room_for_reply.ensures.kept (refl {a = true})).0 (c.in_ok-pass_on.ensures.kept (refl {a = true})).0

pub returns-in_ok-pass_on-clause-waits : goal.returns-in_ok-pass_on-clause-waits
returns-in_ok-pass_on-clause-waits g c = λ full.
    let same : c.eq.result ≡ false = rw (c.make_room_for_reply.ensures.passing, full) at c.eq.ensures in
    absurd (false≢true (sym same ∙ c.if-eq.true))

pub returns-in_ok-pass_on-clause-remembers : goal.returns-in_ok-pass_on-clause-remembers
returns-in_ok-pass_on-clause-remembers g c = λ _.
    let nothing = c.in_ok-pass_on.ensures.nothing in
    inr (nothing.2, nothing.0)

pub returns-else-eq-clause-waits : goal.returns-else-eq-clause-waits
returns-else-eq-clause-waits g c = λ _. (_, c.take_some-count.ensures.octets)

pub returns-else-eq-clause-gets : goal.returns-else-eq-clause-gets
returns-else-eq-clause-gets g c = gets_last g.R.Write.contents _ c.args.self.now.replies c.make_room_for_reply.new.self.replies c.take_some-count.new.self
    (c.in_ok-make_room_for_reply.ensures.kept (refl {a = true})).1 c.take_some-count.ensures.octets c.take_some-count.ensures.writer

pub returns-else-eq-clause-passed : goal.returns-else-eq-clause-passed
returns-else-eq-clause-passed g c = λ line ends. elim c.else-eq.branch [
  | else-eq-via-then-eq+else-ends_line w ↦
      absurd (false≢true (sym w.if-ends_line.false ∙ w.ends_line.ensures.1 ends))
  | else-eq-via-else-eq w ↦
      let same : c.eq.result ≡ true = rw (c.make_room_for_reply.ensures.passing, line) at c.eq.ensures in
      absurd (false≢true (sym w.if-eq.false ∙ same))
]

pub returns-else-eq-clause-remembers : goal.returns-else-eq-clause-remembers
returns-else-eq-clause-remembers g c = λ _. c.in_ok-make_room_for_reply.ensures.remembers (refl {a = true})

pub returns-in_ok-pass_on-clause-count : goal.returns-in_ok-pass_on-clause-count
returns-in_ok-pass_on-clause-count g c = let count = c.take_some-count.ensures.count in omega (arith, count)

pub returns-in_ok-pass_on-clause-some : goal.returns-in_ok-pass_on-clause-some
returns-in_ok-pass_on-clause-some g c = λ some.
    let count = c.take_some-count.ensures.count in
    let room = c.in_ok-make_room_for_reply.ensures.room (refl {a = true}) in
    omega (arith, some, count, room)

pub returns-in_ok-pass_on-clause-passed : goal.returns-in_ok-pass_on-clause-passed
returns-in_ok-pass_on-clause-passed g c = λ _ _. c.in_ok-pass_on.ensures.nothing.1

pub returns-in_ok-pass_on-clause-passing : goal.returns-in_ok-pass_on-clause-passing
returns-in_ok-pass_on-clause-passing g c = c.pass_on.ensures.passing ∙ c.make_room_for_reply.ensures.passing

pub returns-in_ok-pass_on-clause-failed : goal.returns-in_ok-pass_on-clause-failed
returns-in_ok-pass_on-clause-failed g c = c.in_ok-pass_on.ensures.failed

pub returns-in_ok-pass_on-clause-lasts : goal.returns-in_ok-pass_on-clause-lasts
returns-in_ok-pass_on-clause-lasts g c = λ failed. absurd (false≢true (sym c.if-self.false ∙ failed))

pub returns-else-eq-clause-count : goal.returns-else-eq-clause-count
returns-else-eq-clause-count g c = let count = c.take_some-count.ensures.count in omega (arith, count)

pub returns-else-eq-clause-some : goal.returns-else-eq-clause-some
returns-else-eq-clause-some g c = λ some.
    let count = c.take_some-count.ensures.count in
    let room = c.in_ok-make_room_for_reply.ensures.room (refl {a = true}) in
    omega (arith, some, count, room)

pub returns-else-eq-clause-outputs : goal.returns-else-eq-clause-outputs
returns-else-eq-clause-outputs g c = λ _. (c.in_ok-make_room_for_reply.ensures.kept (refl {a = true})).0

pub returns-else-eq-clause-passing : goal.returns-else-eq-clause-passing
returns-else-eq-clause-passing g c = c.make_room_for_reply.ensures.passing

pub returns-else-eq-clause-failed : goal.returns-else-eq-clause-failed
returns-else-eq-clause-failed g c = c.in_ok-make_room_for_reply.ensures.failed

pub returns-else-eq-clause-lasts : goal.returns-else-eq-clause-lasts
returns-else-eq-clause-lasts g c = λ failed. absurd (false≢true (sym c.if-self.false ∙ failed))
