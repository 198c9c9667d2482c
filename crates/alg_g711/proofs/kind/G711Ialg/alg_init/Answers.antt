use Rattle.std.proofs.Common.{◌≡◌, Some, true, [], length, ap, sym, ◌∙◌, arith}
use Rattle.ialg.specs.Records.{unplaced, idle_size}
use Rattle.ialg.specs.Loans.{lent_words}
use Rattle.ialg.specs.Objects.{Names}
use Rattle.ialg.proofs.Tables.{idle_lent_size}
use Rattle.alg_g711.specs.declared.coder.Direction.TheVariants.{Encode, Decode}
use Rattle.alg_g711.specs.Meaning.{coder_named, kind_word, records_of}
use Rattle.alg_g711.proofs.Keeping.{without_scratch, begun, first_record, granted_records, samples_named}
use Rattle.alg_g711.proofs.kind.G711Ialg.alg_init.Goals as goal

encodes_not : Encode ≡ Decode → ⊥
encodes_not e = cc

pub returns-in-Encode-clause-law : goal.returns-in-Encode-clause-law
returns-in-Encode-clause-law c w lawful taken table lent writable poison =
    let p = c.args.p.now.items in
    let tab = c.args.tab.now in
    let coder = c.in-Some.coder in
    let granted : coder_named p ≡ Some coder = ap coder_named (sym c.as_slice.ensures.value) ∙ sym c.by_parameters.ensures ∙ c.in-Some.is in
    let records = granted_records (coder_named p) coder (unplaced tab) granted taken in
    let sizes = idle_lent_size tab (records_of coder.direction) records (lent_words c.args.mem.now) lent in
    let size = sizes 0 ∙ ap (λ r. idle_size r.attr r.size) (first_record coder.direction) in
    let names = c.write_object_of.ensures.names size in
    let new = lent_words c.write_object_of.new.mem in
    without_scratch p tab new [] (begun p tab new coder granted records names (λ e. absurd (encodes_not (sym c.in-Encode.is ∙ e))))

pub returns-in-Decode-clause-law : goal.returns-in-Decode-clause-law
returns-in-Decode-clause-law c w lawful taken table lent writable poison =
    let p = c.args.p.now.items in
    let tab = c.args.tab.now in
    let coder = c.in-Some.coder in
    let m = c.write_object_of.new.mem in
    let others = c.write_object_of.ensures.others in
    let granted : coder_named p ≡ Some coder = ap coder_named (sym c.as_slice.ensures.value) ∙ sym c.by_parameters.ensures ∙ c.in-Some.is in
    let records = granted_records (coder_named p) coder (unplaced tab) granted taken in
    let all : unplaced tab ≡ records_of Decode = rw c.in-Decode.is at records in
    let sizes = idle_lent_size tab (records_of Decode) all (lent_words c.args.mem.now) lent in
    let names = c.write_object_of.ensures.names (sizes 0) in
    let same = ap (λ b. b.now) others.table ∙ table in
    let size = ap (λ r. length r.now) (others.others1 (λ e. omega arith)) ∙ sizes 1 in
    let way = c.in-Decode.is in
    let here : Names (kind_word coder.law Decode) (records_of Decode) m.table.now m.r0.now = rw same (rw (way, all) at names) in
    let named = samples_named m coder.law here size in
    let may : m.writable ≡ true = others.writable ∙ writable in
    let object = c.fill.ensures.object named may in
    let new = lent_words c.fill.new.mem in
    without_scratch p tab new [] (begun p tab new coder granted records (rw object names) (λ e. c.fill.ensures.samples named may size))
