use Rattle.std.proofs.Common.{◌≡◌, ◌∙◌, ap}
use Rattle.voice_script.specs.Widths.{octet_count}
use Rattle.console_spec.specs.Samples.{octets_at}
use Rattle.dsp_console.specs.Consoles.{port_widths_of}
use Rattle.dsp_console.proofs.Served.{gave, stands_first}
use Rattle.dsp_console.proofs.lines.ConsoleLineMachine.feed.Goals as goal

pub returns-clause-gives : goal.returns-clause-gives
returns-clause-gives g c =
    let ports = port_widths_of c.args.self.now in
    let reads : c.input_width-input_width.result ≡ ports.input c.args.channel = c.input_width-input_width.ensures in
    let gives : c.output_width-output_width.result ≡ ports.output c.args.channel = c.output_width-output_width.ensures in
    let asked : c.octets_of-octets.result ≡ octet_count (ports.input c.args.channel) c.args.samples.number = rw (reads, c.from.ensures, c.number.ensures.value) at c.octets_of-octets.ensures.count in
    gave g.M.Ialg.law ports c.args.channel _ _ (rw (asked, reads) at c.pass.ensures.machine)
    (stands_first (ports.output c.args.channel) _ _ _ _ ((rw gives at c.write_samples.ensures) ∙ ap (octets_at (ports.output c.args.channel)) c.as_slice.ensures.value) c.len-count.ensures.value)
    c.len-count.ensures.value
