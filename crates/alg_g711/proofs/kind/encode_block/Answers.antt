use Rattle.std.proofs.Common.{◌≡◌, ◌∙◌, length, pos, ap, sym, FitsSigned, w16, rules, arith}
use Rattle.std.proofs.lemmas.Int.{to_z-of_z}
use Rattle.ialg.specs.History.{word_at}
use Rattle.ialg.proofs.Blocks.{front_of_room}
use Rattle.alg_g711.specs.declared.coder.Direction.TheVariants.{Encode}
use Rattle.alg_g711.specs.Meaning.{coded}
use Rattle.alg_g711.proofs.Outputs.{is_map, more_read}
use Rattle.alg_g711.proofs.kind.encode_block.Goals as goal

pub returns-in_default-clause-given : goal.returns-in_default-clause-given
returns-in_default-clause-given c =
    let codes = c.encode_words.new.codes in
    let many : length codes ≡ length c.args.input.now = c.encode_words.auto.codes ∙ c.split_at_mut-codes.ensures.front_len in
    front_of_room c.set_len.new.self codes c.split_at_mut-codes.result.1.now (many ∙ sym c.set_len.ensures.len)
    ∙ is_map (coded c.args.law Encode) c.args.input.now codes many c.encode_words.ensures.codes

pub returns-in_default-clause-read : goal.returns-in_default-clause-read
returns-in_default-clause-read c = c.encode_words.ensures.read

pub returns-in-len1-clause-given : goal.returns-in-len1-clause-given
returns-in-len1-clause-given c =
    let least = c.in-len1.len_at_least in
    let most = c.in-len1.len_below in
    let input = c.args.input.now in
    let f : FitsSigned w16 (word_at input 0) = search rules in
    let code = rw (to_z-of_z w16 (word_at input 0) f) at c.encode_alone.ensures in
    let given = to_z-of_z w16 c.from.result (record { sfits = c.from.type_inv }) ∙ c.from.ensures ∙ ap pos code in
    rw (c.push.ensures.items, c.requires.empty) (is_map (coded c.args.law Encode) input _ (omega arith) (λ k b.
    let first : k ≡ 0 = omega arith in
    rw first given))

pub returns-in-len1-clause-read : goal.returns-in-len1-clause-read
returns-in-len1-clause-read c k d b =
    let least = c.in-len1.len_at_least in
    let most = c.in-len1.len_below in
    let f : FitsSigned w16 (word_at c.args.input.now 0) = search rules in
    more_read c.args.input.now 0 (omega arith) f (λ i d none. absurd (omega arith)) k d (omega arith)
