-- All slots are behind the mark.
use Rattle.std.proofs.Common.{◌++◌, map, replicate, ap, ◌∙◌}
use Rattle.std.specs.Prelude.{Some, None}
use Rattle.space_raw.specs.Stores.{seen}
use Rattle.space_raw.proofs.Stores.{seen_none}
use Rattle.space_raw.proofs.store.Store.of_blank.Goals as goal

pub returns-clause-slots : goal.returns-clause-slots
returns-clause-slots c =
    let n = c.args.len in
    ap (λ cs. seen 0 cs) (c.of.ensures.words.1 ∙ ap (λ ws. map Some ws ++ replicate n None) c.requires.none.1) ∙ seen_none n
