use Rattle.std.proofs.Common.{ap, refl, sym}
use Rattle.channel_spec.specs.Calls.Call.{Ready}
use Rattle.console_spec.specs.Told.{feed_asked}
use Rattle.dsp_console.specs.Consoles.{port_widths_of}
use Rattle.dsp_console.proofs.Served.{called}
use Rattle.dsp_console.proofs.console.Console.feed_asked.Goals as goal

pub returns-in-Ok-clause-asks : goal.returns-in-Ok-clause-asks
returns-in-Ok-clause-asks g c =
    called g.M.Ialg.law (λ a. Ready c.args.c a) (feed_asked ((port_widths_of c.args.self.now).input c.args.c) c.args.c c.args.samples.number) c.ready.result _ _ _ c.ready.ensures.machine
    (ap (feed_asked ((port_widths_of c.args.self.now).input c.args.c) c.args.c c.args.samples.number) (sym c.in-Ok.is))

pub returns-in-Ok-clause-ready : goal.returns-in-Ok-clause-ready
returns-in-Ok-clause-ready g c = record { there = c.in-Ok.ensures.there refl; able = c.in-Ok.ensures.able refl }

pub returns-in-Err-clause-asks : goal.returns-in-Err-clause-asks
returns-in-Err-clause-asks g c =
    called g.M.Ialg.law (λ a. Ready c.args.c a) (feed_asked ((port_widths_of c.args.self.now).input c.args.c) c.args.c c.args.samples.number) c.ready.result _ _ _ c.ready.ensures.machine
    (ap (feed_asked ((port_widths_of c.args.self.now).input c.args.c) c.args.c c.args.samples.number) (sym c.in-Err.is))
