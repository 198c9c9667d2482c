use Rattle.std.proofs.Common.{◌≡◌, ◌<◌, ◌≤◌, ◌%◌, ◌∙◌, length, get_or, pos, ap, rules, arith}
use Rattle.std.specs.Int.{cast_unsigned}
use Rattle.std.proofs.lemmas.Grind.{common_steps}
use Rattle.std.proofs.lemmas.Int.{to_z-of_z}
use mir.Val.{SFits, to_z, of_z}
use mir.Syntax.{w16}
use Rattle.dsp_console.proofs.SampleLemmas.{one_more, all_of_them}
use Rattle.dsp_console.proofs.samples.write_low_octets.Goals as goal

pub loop-k-preserved : goal.loop-k-preserved
loop-k-preserved c =
    let there : c.loop-k.k < length c.args.samples.now = search rules in
    let room : c.loop-k.k < length c.loop-k.octets = grind (arith, common_steps, c.requires, c.loop-k.invariant.size) in
    let x = get_or c.args.samples.now c.loop-k.k (pos 0) in
    let fits : SFits w16 x = search rules in
    let same : to_z w16 (of_z w16 x) ≡ x = to_z-of_z w16 x fits in
    record {
      size = search rules;
      first = one_more (λ x. cast_unsigned w16 x % 256) c.args.samples.now c.loop-k.octets c.loop-k.k (pos 0) _ (ap (λ n. n % 256) (c.cast_unsigned.ensures ∙ ap (cast_unsigned w16) same)) there room c.loop-k.invariant.first;
    }

pub returns : goal.returns
returns c =
    let within : length c.args.samples.now ≤ c.loop-k.k = search rules in
    let all : length c.loop-k.octets ≤ c.loop-k.k = grind (arith, common_steps, c.requires, c.loop-k.invariant.size) in
    all_of_them (λ x. cast_unsigned w16 x % 256) c.args.samples.now c.loop-k.octets c.loop-k.k within all c.loop-k.invariant.first
