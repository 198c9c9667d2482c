use Rattle.std.proofs.Common.{rules, refl, sym, arith}
use Rattle.std.proofs.lemmas.Bool.{false≢true}
use Rattle.octet_ports.proofs.Ahead.{line_taken, window, window_after}
use Rattle.octet_ports.proofs.reader.LineReader.take_line.Goals as goal

pub returns-clause-taken : goal.returns-clause-taken
returns-clause-taken g c e =
    rw (← c.self.view_is)
    (line_taken g.row.MOST c.self.inside.buffer c.self.inside.at c.self.inside.end c.self.inside.left c.in-Some.line.now c.try_extend_from_slice.new.self.items c.self.invariant.order c.in-Some.ensures
    (search rules) (search rules) c.self.invariant.few)

pub invariant_of-self : goal.invariant_of-self
invariant_of-self g c = let r = c.self.inside in window_after r.buffer r.at r.end r.left c.in-Some.line.now c.self.invariant c.in-Some.ensures

pub returns-in_default-clause-within : goal.returns-in_default-clause-within
returns-in_default-clause-within g c = let r = c.self.inside in rw (← c.self.view_is) (window r.buffer r.at r.end r.left c.self.invariant).0

pub returns-in_default-clause-few : goal.returns-in_default-clause-few
returns-in_default-clause-few g c = let r = c.self.inside in rw (← c.self.view_is) (window r.buffer r.at r.end r.left c.self.invariant).1

pub returns-then-is_err-clause-within : goal.returns-then-is_err-clause-within
returns-then-is_err-clause-within g c = let r = c.self.inside in rw (← c.self.view_is) (window r.buffer r.at r.end r.left c.self.invariant).0

pub returns-then-is_err-clause-few : goal.returns-then-is_err-clause-few
returns-then-is_err-clause-few g c = let r = c.self.inside in rw (← c.self.view_is) (window r.buffer r.at r.end r.left c.self.invariant).1

pub returns-clause-within : goal.returns-clause-within
returns-clause-within g c = (window c.self.inside.buffer _ _ _ (invariant_of-self g c)).0

pub returns-clause-few : goal.returns-clause-few
returns-clause-few g c = (window c.self.inside.buffer _ _ _ (invariant_of-self g c)).1

pub returns-in_default-clause-taken : goal.returns-in_default-clause-taken
returns-in_default-clause-taken g c = λ bad. absurd (false≢true bad)

pub returns-then-is_err-clause-taken : goal.returns-then-is_err-clause-taken
returns-then-is_err-clause-taken g c = λ bad. absurd (false≢true bad)

pub returns-clause-nothing : goal.returns-clause-nothing
returns-clause-nothing g c = λ bad. absurd (false≢true (sym bad))

pub overflow_add-count : goal.overflow_add-count
overflow_add-count g c =
    let r = c.self.inside in
    let order = (window_after r.buffer r.at r.end r.left c.in-Some.line.now c.self.invariant c.in-Some.ensures).order in
    let within = c.self.invariant.within in
    omega (arith, order, within)

pub overflow_add-self : goal.overflow_add-self
overflow_add-self g c =
    let r = c.self.inside in
    let order = (window_after r.buffer r.at r.end r.left c.in-Some.line.now c.self.invariant c.in-Some.ensures).order in
    let within = c.self.invariant.within in
    omega (arith, order, within)

pub overflow_sub-self : goal.overflow_sub-self
overflow_sub-self g c =
    let r = c.self.inside in
    let order = (window_after r.buffer r.at r.end r.left c.in-Some.line.now c.self.invariant c.in-Some.ensures).order in
    let few = c.self.invariant.few in
    omega (arith, order, few)

pub returns-in_default-clause-nothing : goal.returns-in_default-clause-nothing
returns-in_default-clause-nothing g c = λ _. (refl, refl)

pub slice_bounds-first_line-count : goal.slice_bounds-first_line-count
slice_bounds-first_line-count g c = c.self.invariant.order
