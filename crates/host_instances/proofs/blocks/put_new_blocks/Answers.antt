use Rattle.host_instances.proofs.Told.{each_old, each_new}
use Rattle.host_instances.proofs.blocks.put_new_blocks.Goals as goal

pub returns-clause-old : goal.returns-clause-old
returns-clause-old c space =
    each_old c.args.blocks c.args.groups.now.items _ _ c.args.g _ c.put_new-daram.ensures.old c.put_new-saram.ensures.old c.put_new-external.ensures.old
    c.put_new-daram.ensures.others c.put_new-saram.ensures.others space

pub returns-clause-new : goal.returns-clause-new
returns-clause-new c space =
    each_new c.args.blocks c.args.groups.now.items _ _ c.args.g _ c.put_new-daram.ensures.new c.put_new-saram.ensures.new c.put_new-external.ensures.new
    c.put_new-daram.ensures.others c.put_new-saram.ensures.others c.put_new-external.ensures.others space
