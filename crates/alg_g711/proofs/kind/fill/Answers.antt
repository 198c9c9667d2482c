use Rattle.std.proofs.Common.{length, ap, lit<, arith, ◌∙◌}
use Rattle.alg_g711.specs.declared.coder.Direction.TheVariants.{Decode}
use Rattle.alg_g711.specs.Meaning.{kind_word, records_of}
use Rattle.ialg.proofs.Taking.{visit}
use Rattle.alg_g711.proofs.kind.fill.Goals as goal

pub returns-in_default-clause-samples : goal.returns-in_default-clause-samples
returns-in_default-clause-samples c named writable size =
    absurd (c.in_default.ensures.named (kind_word c.args.law Decode) (records_of Decode) named (λ e. writable))

pub returns-clause-samples : goal.returns-clause-samples
returns-clause-samples c named writable size =
    let found = c.in-Some.ensures.named (kind_word c.args.law Decode) (records_of Decode) named (λ e. writable) in
    let v = visit 1 c.args.mem.now _ _ c.in-Some.taken _ found (lit< tt) (λ e. omega arith) c.in-Some.ensures.left c.put.ensures.others c.put.ensures.back in
    v.written.written ∙ c.write_samples.ensures (ap (λ r. length r.now) v.taken ∙ size)
