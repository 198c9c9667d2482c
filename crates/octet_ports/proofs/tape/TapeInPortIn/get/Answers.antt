use Rattle.std.proofs.Common.{length-take, refl, sym, arith}
use Rattle.std.proofs.lemmas.Bool.{ne_eqb}
use Rattle.octet_ports.proofs.Ports.{tape_gave}
use Rattle.octet_ports.proofs.tape.TapeInPortIn.get.Goals as goal

pub returns-clause-amount : goal.returns-clause-amount
returns-clause-amount c =
    let first = c.min.ensures in
    let count = c.min-count.ensures in
    omega (arith, first, count)

pub returns-clause-count : goal.returns-clause-count
returns-clause-count c =
    let first = c.min.ensures in
    let count = c.min-count.ensures in
    omega (arith, first, count)

pub returns-clause-octets : goal.returns-clause-octets
returns-clause-octets c =
    let cut = c.split_at.ensures in
    let gave = tape_gave c.min-count.result c.args.self.now.rest.now _ _ c.copy_from_slice.new.self _ cut.front cut.back cut.front_len c.copy_from_slice.ensures.after in
    record { stays = λ honest. honest; given = λ _. gave }

pub returns-clause-failed : goal.returns-clause-failed
returns-clause-failed c = c.requires

pub returns-clause-breaks : goal.returns-clause-breaks
returns-clause-breaks c = sym (ne_eqb c.args.self.now.fuse 0 c.if-self-eq0.false)

pub returns-clause-step : goal.returns-clause-step
returns-clause-step c = refl

pub split_at-requires : goal.split_at-requires
split_at-requires c =
    let first = c.min.ensures in
    let count = c.min-count.ensures in
    omega (arith, first, count)

pub copy_from_slice-requires : goal.copy_from_slice-requires
copy_from_slice-requires c =
    let first = c.min.ensures in
    let count = c.min-count.ensures in
    let given = c.split_at.ensures.front_len in
    let room = length-take c.min-count.result c.args.buffer.now in
    omega (arith, first, count, given, room)
