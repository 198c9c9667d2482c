use Rattle.test_hosts.proofs.CutFeeds.{as_one}
use Rattle.test_hosts.proofs.TwoFeeds.{serves_both}
use Rattle.test_hosts.proofs.cut_feeds.feed_in_two.Goals as goal

pub returns-clause-both : goal.returns-clause-both
returns-clause-both g c = serves_both g.M.Ialg.law c.fed-first_out.ensures.machine c.fed-second_out.ensures.machine

pub returns-clause-joined : goal.returns-clause-joined
returns-clause-joined g c =
    as_one g.M.Ialg.law (c.cuts_do_not_show.ensures.two g.M.Ialg.law.meaning) c.args.c c.args.first.now
    c.args.second.now c.fed-first_out.result.items c.fed-second_out.result.items c.args.channels.now c.fed-first_out.new.channels c.fed-second_out.new.channels c.fed-first_out.ensures.machine
    c.fed-second_out.ensures.machine
