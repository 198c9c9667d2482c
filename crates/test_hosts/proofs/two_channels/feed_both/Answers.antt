use Rattle.test_hosts.proofs.TwoChannels.{as_given}
use Rattle.test_hosts.proofs.TwoFeeds.{serves_both}
use Rattle.test_hosts.proofs.two_channels.feed_both.Goals as goal

pub returns-clause-both : goal.returns-clause-both
returns-clause-both g c = serves_both g.M.Ialg.law c.fed-early.ensures.machine c.fed-late.ensures.machine

pub returns-clause-agree : goal.returns-clause-agree
returns-clause-agree g c =
    as_given g.M.Ialg.law (c.channels_agree.ensures g.M.Ialg.law.meaning) c.args.c c.args.d
    c.args.first.now c.args.second.now c.args.whole.now c.fed-early.result.items c.fed-late.result.items c.fed-whole.result.items
    c.args.one.now c.fed-early.new.channels c.fed-late.new.channels c.args.other.now c.fed-whole.new.channels c.requires.joined
    c.fed-early.ensures.machine c.fed-late.ensures.machine c.fed-whole.ensures.machine
