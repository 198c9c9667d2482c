use Rattle.std.proofs.Common.{◌≡◌, ◌^◌, ◌*ℤ◌, w16, w32, SFits, to_z, of_z, ◌∙◌, lit<}
use Rattle.std.specs.Int.Signed.{nat_abs-le}
use Rattle.std.proofs.Math.Nat.{mul-le-mul}
use Rattle.std.proofs.lemmas.Int.{to_z-of_z, fits_signed_mul, unsigned_abs-mul}
use Rattle.basic_op.proofs.wide.product.Goals as goal

first_is : (c : goal.After-from-second) → to_z w32 (of_z w32 c.from-first.result) ≡ c.args.a
first_is c =
    to_z-of_z w32 c.from-first.result (record { sfits = c.from-first.type_inv }) ∙ c.from-first.ensures ∙ to_z-of_z w16 c.args.a c.ranges.a

second_is : (c : goal.After-from-second) → to_z w32 (of_z w32 c.from-second.result) ≡ c.args.b
second_is c =
    to_z-of_z w32 c.from-second.result (record { sfits = c.from-second.type_inv }) ∙ c.from-second.ensures ∙ to_z-of_z w16 c.args.b c.ranges.b

fits : (c : goal.After-from-second) → SFits w32 (c.args.a *ℤ c.args.b)
fits c =
    fits_signed_mul w32 c.args.a c.args.b (2 ^ 15) (2 ^ 15) (nat_abs-le c.args.a c.ranges.a.sfits) (nat_abs-le c.args.b c.ranges.b.sfits) (lit< tt)

pub overflow_mul-result : goal.overflow_mul-result
overflow_mul-result c = rw (first_is c, second_is c) (fits c)

pub returns-clause-value : goal.returns-clause-value
returns-clause-value c = rw (first_is c, second_is c) (to_z-of_z w32 (c.args.a *ℤ c.args.b) (fits c))

pub returns-clause-within : goal.returns-clause-within
returns-clause-within c =
    rw (returns-clause-value c, unsigned_abs-mul c.args.a c.args.b)
    (mul-le-mul (nat_abs-le c.args.a c.ranges.a.sfits) (nat_abs-le c.args.b c.ranges.b.sfits))
