use Rattle.std.proofs.Common.{◌∙◌, ap, refl}
use Rattle.alg_g711.specs.declared.coder.Coder.{Coder}
use Rattle.alg_g711.specs.declared.coder.Direction.TheVariants.{Encode}
use Rattle.alg_g711.proofs.Coders.{same_coder}
use Rattle.alg_g711.proofs.kind.encode_by.Goals as goal

pub returns-in-Some-clause-given : goal.returns-in-Some-clause-given
returns-in-Some-clause-given c law records table names =
    let coder : Coder = record { law = law; direction = Encode } in
    let e = same_coder c.coder_of.result c.in-Some.coder coder c.in-Some.is (c.coder_of.ensures coder records table names) in
    c.encode_block.ensures.given ∙ rw (ap (λ x. x.law) e) refl

pub returns-in_default-clause-given : goal.returns-in_default-clause-given
returns-in_default-clause-given c law records table names =
    absurd (c.in_default.not-Some (record { law = law; direction = Encode }) (c.coder_of.ensures (record { law = law; direction = Encode }) records table names))

pub returns-in_default-clause-read : goal.returns-in_default-clause-read
returns-in_default-clause-read c law records table names =
    absurd (c.in_default.not-Some (record { law = law; direction = Encode }) (c.coder_of.ensures (record { law = law; direction = Encode }) records table names))
