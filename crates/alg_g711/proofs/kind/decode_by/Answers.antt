use Rattle.std.proofs.Common.{◌≡◌, ◌∙◌, length, ap, sym, FitsSigned, w16, rules, arith}
use Rattle.std.proofs.lemmas.Int.{to_z-of_z}
use Rattle.ialg.specs.History.{word_at}
use Rattle.ialg.proofs.Blocks.{front_of_room}
use Rattle.alg_g711.proofs.Outputs.{more_read}
use Rattle.alg_g711.proofs.kind.decode_by.Goals as goal

pub returns-in_default-clause-count : goal.returns-in_default-clause-count
returns-in_default-clause-count c =
    let samples = c.decode_words.new.samples in
    let many : length samples ≡ length c.args.input.now = c.decode_words.auto.samples ∙ c.split_at_mut-samples.ensures.front_len in
    ap length (front_of_room c.set_len.new.self samples c.split_at_mut-samples.result.1.now (many ∙ sym c.set_len.ensures.len)) ∙ many

pub returns-in_default-clause-samples : goal.returns-in_default-clause-samples
returns-in_default-clause-samples c k b =
    let samples = c.decode_words.new.samples in
    let many : length samples ≡ length c.args.input.now = c.decode_words.auto.samples ∙ c.split_at_mut-samples.ensures.front_len in
    ap (λ words. word_at words k) (front_of_room c.set_len.new.self samples c.split_at_mut-samples.result.1.now (many ∙ sym c.set_len.ensures.len))
    ∙ c.decode_words.ensures.samples k b

pub returns-in_default-clause-read : goal.returns-in_default-clause-read
returns-in_default-clause-read c = c.decode_words.ensures.read

pub sample_of-requires : goal.sample_of-requires
sample_of-requires c = c.requires.all

pub returns-in-len1-clause-count : goal.returns-in-len1-clause-count
returns-in-len1-clause-count c =
    let least = c.in-len1.len_at_least in
    let most = c.in-len1.len_below in
    rw (c.push.ensures.items, c.requires.empty) (omega arith)

pub returns-in-len1-clause-samples : goal.returns-in-len1-clause-samples
returns-in-len1-clause-samples c k b =
    let most = c.in-len1.len_below in
    let first : k ≡ 0 = omega arith in
    let f : FitsSigned w16 (word_at c.args.input.now 0) = search rules in
    let sample = rw (to_z-of_z w16 (word_at c.args.input.now 0) f) at c.sample_of.ensures in
    rw (c.push.ensures.items, c.requires.empty, first) (to_z-of_z w16 c.sample_of.result (record { sfits = c.sample_of.type_inv }) ∙ sample)

pub returns-in-len1-clause-read : goal.returns-in-len1-clause-read
returns-in-len1-clause-read c k d b =
    let least = c.in-len1.len_at_least in
    let most = c.in-len1.len_below in
    let f : FitsSigned w16 (word_at c.args.input.now 0) = search rules in
    more_read c.args.input.now 0 (omega arith) f (λ i d none. absurd (omega arith)) k d (omega arith)
