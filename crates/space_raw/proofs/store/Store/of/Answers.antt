-- All slots are before the mark.
use Rattle.std.proofs.Common.{map, ap, arith, ◌∙◌}
use Rattle.std.proofs.lemmas.List.{length-map}
use Rattle.std.specs.Prelude.{Some}
use Rattle.space_raw.specs.Stores.{seen}
use Rattle.space_raw.proofs.Stores.{seen_all, and_none}
use Rattle.space_raw.proofs.store.Store.of.Goals as goal

pub returns-clause-slots : goal.returns-clause-slots
returns-clause-slots c =
    let ws = c.args.words.items in
    let all = c.of.ensures.words.1 ∙ and_none (map Some c.end-words.result.0.items) ∙ ap (λ w. map Some w.items) c.end-words.ensures.words in
    ap (λ cs. seen c.args.len cs) all ∙ seen_all (map Some ws) c.args.len (omega (arith, length-map ws Some, c.requires.whole.1))
