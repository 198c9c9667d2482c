use Rattle.std.proofs.Common.{◌≡◌, Ok, Err, Some, None, ◌∙◌, ap, refl, sym}
use Rattle.voice_script.specs.declared.commands.Command.TheVariants.{Feed, Create, Delete}
use Rattle.voice_script.specs.Commands.{line_of}
use Rattle.dsp_console.specs.Consoles.{port_widths_of}
use Rattle.dsp_console.proofs.Served.{lined}
use Rattle.dsp_console.proofs.lines.ConsoleLineMachine.ask.Goals as goal

pub returns-in-Ok-Some-Feed-clause-asks : goal.returns-in-Ok-Some-Feed-clause-asks
returns-in-Ok-Some-Feed-clause-asks g c =
    let read : c.parse.result ≡ Ok (Some (Feed c.in-Ok-Some-Feed.channel c.in-Ok-Some-Feed.samples)) = cc in
    lined g.M.Ialg.law (port_widths_of c.args.self.now) _ _ _ _ _ (ap line_of (sym read) ∙ c.parse.ensures) c.feed_asked.ensures.asks

pub returns-in-Ok-Some-Create-clause-asks : goal.returns-in-Ok-Some-Create-clause-asks
returns-in-Ok-Some-Create-clause-asks g c =
    let read : c.parse.result ≡ Ok (Some (Create c.in-Ok-Some-Create.instance c.in-Ok-Some-Create.kind c.in-Ok-Some-Create.group c.in-Ok-Some-Create.parameters)) = cc in
    lined g.M.Ialg.law (port_widths_of c.args.self.now) _ _ _ _ _ (ap line_of (sym read) ∙ c.parse.ensures) c.create.ensures.asks

pub returns-in-Ok-Some-Delete-clause-asks : goal.returns-in-Ok-Some-Delete-clause-asks
returns-in-Ok-Some-Delete-clause-asks g c =
    let read : c.parse.result ≡ Ok (Some (Delete c.in-Ok-Some-Delete.instance)) = cc in
    lined g.M.Ialg.law (port_widths_of c.args.self.now) _ _ _ _ _ (ap line_of (sym read) ∙ c.parse.ensures) c.delete.ensures.asks

pub returns-in-Ok-Some-clause-asks : goal.returns-in-Ok-Some-clause-asks
returns-in-Ok-Some-clause-asks g c =
    let read : c.parse.result ≡ Ok (Some c.in-Ok-Some.command) = cc in
    lined g.M.Ialg.law (port_widths_of c.args.self.now) _ _ _ _ _ (ap line_of (sym read) ∙ c.parse.ensures) c.obey.ensures.asks

pub returns-in-Ok-None-clause-asks : goal.returns-in-Ok-None-clause-asks
returns-in-Ok-None-clause-asks g c =
    let read : c.parse.result ≡ Ok None = cc in
    lined g.M.Ialg.law (port_widths_of c.args.self.now) (Ok None) _ _ _ _ (ap line_of (sym read) ∙ c.parse.ensures) (λ before keeps. (before, (refl, refl), keeps))

pub returns-in-Err-clause-asks : goal.returns-in-Err-clause-asks
returns-in-Err-clause-asks g c =
    lined g.M.Ialg.law (port_widths_of c.args.self.now) (Err c.in-Err.refusal) _ _ _ _ (ap line_of (sym c.in-Err.is) ∙ c.parse.ensures) (λ before keeps. (before, (refl, refl), keeps))
