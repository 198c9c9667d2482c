use Rattle.std.proofs.Common.{rules, ◌≡◌, refl}
use Rattle.channel_spec.specs.Calls.Call.{OfHost}
use Rattle.host_spec.specs.Calls.Call.{Map}
use Rattle.voice_script.specs.Replies.{Map as Told}
use Rattle.voice_script.specs.Served.{Tell}
use Rattle.dsp_console.proofs.Served.{called}
use Rattle.dsp_console.proofs.console.Console.map.Goals as goal

pub returns : goal.returns
returns g c =
    let all : c.try_extend_from_slice-fits.new.self.items ≡ c.blocks_in.result.now = search rules in
    record {
      asks = rw all (called g.M.Ialg.law (λ a. OfHost (Map c.args.space a)) (λ a. Tell (Told a)) c.blocks_in.result.now _ _ _ c.blocks_in.ensures.machine refl);
    }
