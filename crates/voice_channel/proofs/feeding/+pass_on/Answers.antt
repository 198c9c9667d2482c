use Rattle.std.proofs.Common.{◌∷◌, ◌-◌, ap, length, get_or, take, drop, arith}
use Rattle.voice_channel.proofs.Fed.{first_before, first_of_them, last_of_them}
use Rattle.voice_channel.proofs.feeding.+pass_on.Goals as goal

pub returns-in-len1-up-clause-passes : goal.returns-in-len1-up-clause-passes
returns-in-len1-up-clause-passes g t c =
    let next = get_or c.args.further.now 0 0 in
    first_of_them g.M.Ialg.law c.args.member (c.args.member ∷ c.args.further.now) (next ∷ take (length c.args.further.now - 1) (drop 1 c.args.further.now))
    c.args.from.now.items c.as_slice-in-len1-up.result.now c.run-in-len1-up.new.given.items c.pass_on.new.out.items c.args.host.now c.run-in-len1-up.new.host c.pass_on.new.host
    (ap (λ is. c.args.member ∷ is) (first_before c.args.further.now c.in-len1-up.len_at_least)) c.as_slice-in-len1-up.ensures.value c.run-in-len1-up.ensures.passes c.pass_on.ensures.passes

pub returns-in-len1-up-clause-bounded : goal.returns-in-len1-up-clause-bounded
returns-in-len1-up-clause-bounded g t c =
    let first = rw c.as_slice-in-len1-up.ensures.value at c.run-in-len1-up.ensures.bounded in
    omega (arith, first, c.pass_on.ensures.bounded)

pub returns-in-empty-clause-passes : goal.returns-in-empty-clause-passes
returns-in-empty-clause-passes g t c =
    last_of_them g.M.Ialg.law c.args.member c.args.further.now c.args.from.now.items c.as_slice.result.now c.run.new.given.items c.args.host.now c.run.new.host
    c.in-empty.len_below c.as_slice.ensures.value c.run.ensures.passes

pub returns-in-empty-clause-bounded : goal.returns-in-empty-clause-bounded
returns-in-empty-clause-bounded g t c = rw c.as_slice.ensures.value at c.run.ensures.bounded

pub run-requires : goal.run-requires
run-requires g t c = record { within = c.as_slice.ensures.fits }

pub run-requires-in-len1-up : goal.run-requires-in-len1-up
run-requires-in-len1-up g t c = record { within = c.as_slice-in-len1-up.ensures.fits }
