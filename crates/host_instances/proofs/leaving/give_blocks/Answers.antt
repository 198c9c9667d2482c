use Rattle.record_loans.specs.Blocks.{block_align}
use Rattle.scratch_group.specs.Blocks.{block_in}
use Rattle.host_table.specs.Table.{group_at}
use Rattle.host_instances.proofs.FreedBlocks.{owned_old, owns_old, ok_without, poisoned_without, keeps_without, location_without}
use Rattle.host_instances.proofs.leaving.give_blocks.Goals as goal

pub take_out_blocks-requires-clause-owner : goal.take_out_blocks-requires-clause-owner
take_out_blocks-requires-clause-owner g c =
    owns_old c.args.g c.args.instances.now.items c.args.sharing.now.items c.args.groups.now.items c.take_blocks-blocks.new.groups.items c.args.spaces.now c.args.spaces.now c.take_blocks-blocks.result
    c.requires.none c.requires.ok c.requires.standing c.take_blocks-blocks.ensures.old c.take_blocks-blocks.ensures.new c.take_blocks-blocks.ensures.others c.take_blocks-blocks.ensures.activity c.take_blocks-blocks.ensures.length

pub returns-clause-ok : goal.returns-clause-ok
returns-clause-ok g c =
    ok_without c.args.g c.args.instances.now.items c.args.sharing.now.items c.args.groups.now.items c.take_blocks-blocks.new.groups.items c.args.spaces.now c.take_out_blocks.new.self c.take_blocks-blocks.result
    c.requires.none c.requires.ok c.requires.standing c.take_blocks-blocks.ensures.old c.take_blocks-blocks.ensures.new c.take_blocks-blocks.ensures.others c.take_blocks-blocks.ensures.activity c.take_blocks-blocks.ensures.length

pub returns-clause-standing : goal.returns-clause-standing
returns-clause-standing g c =
    location_without c.args.g c.args.instances.now.items c.args.sharing.now.items c.args.groups.now.items c.take_blocks-blocks.new.groups.items c.args.spaces.now c.take_out_blocks.new.self c.take_blocks-blocks.result
    c.requires.none c.requires.ok c.requires.standing c.take_blocks-blocks.ensures.old c.take_blocks-blocks.ensures.new c.take_blocks-blocks.ensures.others c.take_blocks-blocks.ensures.activity c.take_blocks-blocks.ensures.length
    (c.take_out_blocks.ensures.last (λ space. block_align (block_in (group_at c.args.groups.now.items c.args.g) space))
    (owned_old c.args.g c.args.instances.now.items c.args.sharing.now.items c.args.groups.now.items c.take_blocks-blocks.new.groups.items c.args.spaces.now c.take_out_blocks.new.self c.take_blocks-blocks.result
    c.requires.none c.requires.ok c.requires.standing c.take_blocks-blocks.ensures.old c.take_blocks-blocks.ensures.new c.take_blocks-blocks.ensures.others c.take_blocks-blocks.ensures.activity c.take_blocks-blocks.ensures.length))
    (λ o space apart. c.take_out_blocks.ensures.others o space apart) c.take_out_blocks.ensures.stays

pub returns-clause-poisoned : goal.returns-clause-poisoned
returns-clause-poisoned g c =
    poisoned_without c.args.g c.args.instances.now.items c.args.sharing.now.items c.args.groups.now.items c.take_blocks-blocks.new.groups.items c.args.spaces.now c.take_out_blocks.new.self c.take_blocks-blocks.result
    c.requires.none c.requires.ok c.requires.standing c.take_blocks-blocks.ensures.old c.take_blocks-blocks.ensures.new c.take_blocks-blocks.ensures.others c.take_blocks-blocks.ensures.activity c.take_blocks-blocks.ensures.length

pub returns-clause-map : goal.returns-clause-map
returns-clause-map g c =
    c.take_out_blocks.ensures.last (λ space. block_align (block_in (group_at c.args.groups.now.items c.args.g) space))
    (owned_old c.args.g c.args.instances.now.items c.args.sharing.now.items c.args.groups.now.items c.take_blocks-blocks.new.groups.items c.args.spaces.now c.take_out_blocks.new.self c.take_blocks-blocks.result
    c.requires.none c.requires.ok c.requires.standing c.take_blocks-blocks.ensures.old c.take_blocks-blocks.ensures.new c.take_blocks-blocks.ensures.others c.take_blocks-blocks.ensures.activity c.take_blocks-blocks.ensures.length)

pub returns-clause-keeps : goal.returns-clause-keeps
returns-clause-keeps g c =
    keeps_without c.args.g c.args.instances.now.items c.args.sharing.now.items c.args.groups.now.items c.take_blocks-blocks.new.groups.items c.args.spaces.now c.take_out_blocks.new.self c.take_blocks-blocks.result
    c.requires.none c.requires.ok c.requires.standing c.take_blocks-blocks.ensures.old c.take_blocks-blocks.ensures.new c.take_blocks-blocks.ensures.others c.take_blocks-blocks.ensures.activity c.take_blocks-blocks.ensures.length
    g.M.Ialg.law
