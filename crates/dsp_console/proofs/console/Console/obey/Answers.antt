use Rattle.std.proofs.Common.{ap, sym}
use Rattle.voice_script.specs.Commands.{command_of}
use Rattle.dsp_console.specs.Consoles.{port_widths_of}
use Rattle.dsp_console.proofs.Served.{obeyed}
use Rattle.dsp_console.proofs.console.Console.obey.Goals as goal

pub returns-in-Create-clause-asks : goal.returns-in-Create-clause-asks
returns-in-Create-clause-asks g c =
    obeyed g.M.Ialg.law (port_widths_of c.args.self.now) _ _ _ _ _ (ap command_of (sym c.in-Create.is)) c.create.ensures.asks

pub returns-in-Set-clause-asks : goal.returns-in-Set-clause-asks
returns-in-Set-clause-asks g c =
    obeyed g.M.Ialg.law (port_widths_of c.args.self.now) _ _ _ _ _ (ap command_of (sym c.in-Set.is)) c.set.ensures.asks

pub returns-in-Reset-clause-asks : goal.returns-in-Reset-clause-asks
returns-in-Reset-clause-asks g c =
    obeyed g.M.Ialg.law (port_widths_of c.args.self.now) _ _ _ _ _ (ap command_of (sym c.in-Reset.is)) c.reset.ensures.asks

pub returns-in-Get-clause-asks : goal.returns-in-Get-clause-asks
returns-in-Get-clause-asks g c =
    obeyed g.M.Ialg.law (port_widths_of c.args.self.now) _ _ _ _ _ (ap command_of (sym c.in-Get.is)) c.get.ensures.asks

pub returns-in-Delete-clause-asks : goal.returns-in-Delete-clause-asks
returns-in-Delete-clause-asks g c =
    obeyed g.M.Ialg.law (port_widths_of c.args.self.now) _ _ _ _ _ (ap command_of (sym c.in-Delete.is)) c.delete.ensures.asks

pub returns-in-Chain-clause-asks : goal.returns-in-Chain-clause-asks
returns-in-Chain-clause-asks g c =
    obeyed g.M.Ialg.law (port_widths_of c.args.self.now) _ _ _ _ _ (ap command_of (sym c.in-Chain.is)) c.chain.ensures.asks

pub returns-in-Unchain-clause-asks : goal.returns-in-Unchain-clause-asks
returns-in-Unchain-clause-asks g c =
    obeyed g.M.Ialg.law (port_widths_of c.args.self.now) _ _ _ _ _ (ap command_of (sym c.in-Unchain.is)) c.unchain.ensures.asks

pub returns-in-Compact-clause-asks : goal.returns-in-Compact-clause-asks
returns-in-Compact-clause-asks g c =
    obeyed g.M.Ialg.law (port_widths_of c.args.self.now) _ _ _ _ _ (ap command_of (sym c.in-Compact.is)) c.compact.ensures.asks

pub returns-in-Step-clause-asks : goal.returns-in-Step-clause-asks
returns-in-Step-clause-asks g c =
    obeyed g.M.Ialg.law (port_widths_of c.args.self.now) _ _ _ _ _ (ap command_of (sym c.in-Step.is)) c.step.ensures.asks

pub returns-in-Release-clause-asks : goal.returns-in-Release-clause-asks
returns-in-Release-clause-asks g c =
    obeyed g.M.Ialg.law (port_widths_of c.args.self.now) _ _ _ _ _ (ap command_of (sym c.in-Release.is)) c.release.ensures.asks

pub returns-in-Map-clause-asks : goal.returns-in-Map-clause-asks
returns-in-Map-clause-asks g c =
    obeyed g.M.Ialg.law (port_widths_of c.args.self.now) _ _ _ _ _ (ap command_of (sym c.in-Map.is)) c.map.ensures.asks

pub returns-in-Stat-clause-asks : goal.returns-in-Stat-clause-asks
returns-in-Stat-clause-asks g c =
    obeyed g.M.Ialg.law (port_widths_of c.args.self.now) _ _ _ _ _ (ap command_of (sym c.in-Stat.is)) c.stat.ensures.asks

pub returns-in-Feed-clause-asks : goal.returns-in-Feed-clause-asks
returns-in-Feed-clause-asks g c =
    obeyed g.M.Ialg.law (port_widths_of c.args.self.now) _ _ _ _ _ (ap command_of (sym c.in-Feed.is)) c.feed_asked.ensures.asks
