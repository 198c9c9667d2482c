use Rattle.std.proofs.Common.{◌≡◌, ◌<◌, ◌≤◌, ◌∙◌, length, pos, rules, arith}
use Rattle.std.proofs.lemmas.Grind.{common_steps}
use Rattle.std.proofs.lemmas.Int.{to_z-of_z}
use mir.Val.{to_z, of_z}
use mir.Syntax.{w16}
use Rattle.dsp_console.proofs.SampleLemmas.{one_more, all_of_them}
use Rattle.dsp_console.proofs.samples.read_octets.Goals as goal

pub loop-k-preserved : goal.loop-k-preserved
loop-k-preserved c =
    let there : c.loop-k.k < length c.args.octets.now = search rules in
    let room : c.loop-k.k < length c.loop-k.samples = grind (arith, common_steps, c.requires, c.loop-k.invariant.size) in
    let same : to_z w16 (of_z w16 c.from.result) ≡ c.from.result = to_z-of_z w16 c.from.result (record { sfits = c.from.type_inv }) in
    record {
      size = search rules;
      first = one_more pos c.args.octets.now c.loop-k.samples c.loop-k.k _ _ (same ∙ c.from.ensures) there room c.loop-k.invariant.first;
    }

pub returns : goal.returns
returns c =
    let within : length c.args.octets.now ≤ c.loop-k.k = search rules in
    let all : length c.loop-k.samples ≤ c.loop-k.k = grind (arith, common_steps, c.requires, c.loop-k.invariant.size) in
    all_of_them pos c.args.octets.now c.loop-k.samples c.loop-k.k within all c.loop-k.invariant.first
