use Rattle.std.proofs.Common.{◌∙◌, ap, length}
use Rattle.ialg.specs.History.{word_at}
use Rattle.alg_g711.specs.declared.coder.Direction.TheVariants.{Decode}
use Rattle.alg_g711.specs.Meaning.{kind_word, records_of, coded}
use Rattle.alg_g711.proofs.Outputs.{length-samples_of_codes, is_map, sample_by}
use Rattle.alg_g711.proofs.kind.decode_block.Goals as goal

pub returns-in_default-clause-read : goal.returns-in_default-clause-read
returns-in_default-clause-read c law named samples = absurd (c.in_default.ensures.named (kind_word law Decode) (records_of Decode) named)

pub returns-else-table-eq-CODES-clause-law : goal.returns-else-table-eq-CODES-clause-law
returns-else-table-eq-CODES-clause-law c law named samples =
    let size = ap length (c.in-Some.ensures.named (kind_word law Decode) (records_of Decode) named ∙ samples) ∙ length-samples_of_codes law in
    absurd (c.if-table-eq-CODES.false size)

pub returns-else-table-eq-CODES-clause-read : goal.returns-else-table-eq-CODES-clause-read
returns-else-table-eq-CODES-clause-read c law named samples =
    let size = ap length (c.in-Some.ensures.named (kind_word law Decode) (records_of Decode) named ∙ samples) ∙ length-samples_of_codes law in
    absurd (c.if-table-eq-CODES.false size)

pub returns-then-table-eq-CODES-clause-law : goal.returns-then-table-eq-CODES-clause-law
returns-then-table-eq-CODES-clause-law c law named samples =
    let same = c.in-Some.ensures.named (kind_word law Decode) (records_of Decode) named ∙ samples in
    is_map (coded law Decode) c.args.input.now c.decode_by.new.out.items c.decode_by.ensures.count
    (λ k b. c.decode_by.ensures.samples k b ∙ sample_by law c.in-Some.table.now (word_at c.args.input.now k) same)
