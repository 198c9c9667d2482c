-- One block more has its name.
use Rattle.std.proofs.Common.{◌<◌, ◌≤◌, ◌++◌, List, map, length, get_or, set, take, ap, ◌∙◌, append-nil, arith}
use Rattle.std.proofs.lemmas.List.{drop_all, get_or_default, take_all}
use Rattle.std.proofs.lemmas.List.Edits.{map_over_more}
use Rattle.host_map.specs.declared.placed.Owner.TheVariants.{Record}
use Rattle.host_map.specs.declared.placed.Placed.{Placed}
use Rattle.host_map.specs.Blocks.{renamed_block, renamed_blocks, renaming}
use Rattle.host_spaces.proofs.blocks.rename_each.Goals as goal

-- what a read past the end would give
abbrev blank : Placed
blank = record { owner = Record 0 0; place = 0; size = 0; align = 0 }

pub loop-block-preserved : goal.loop-block-preserved
loop-block-preserved c =
    let xs = c.args.blocks.now in let ys = c.loop-block.blocks in let i = c.loop-block.block-index in
    let x = get_or ys i blank in
    let within : i < length ys = omega arith in
    ap (λ (b : Placed). set ys i b) c.rename_block.ensures
    ∙ map_over_more (renamed_block (renaming c.args.from c.args.to)) xs ys i x (omega arith) c.loop-block.invariant (get_or_default ys i blank x within)

pub returns : goal.returns
returns c =
    let xs = c.args.blocks.now in let i = c.loop-block.block-index in
    let all : length xs ≤ i = omega arith in
    c.loop-block.invariant
    ∙ ap (λ (bs : List Placed). map (renamed_block (renaming c.args.from c.args.to)) (take i xs) ++ bs) (drop_all i xs all)
    ∙ append-nil (map (renamed_block (renaming c.args.from c.args.to)) (take i xs))
    ∙ ap (renamed_blocks (renaming c.args.from c.args.to)) (take_all i xs all)
