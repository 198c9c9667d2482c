use Rattle.std.proofs.Common.{◌≡◌, ◌+◌, pos, ap, length, drop, arith, ◌∙◌, length-drop, get_or-drop}
use Rattle.kind_parts.specs.declared.framing.TheConstants.{COUNT}
use Rattle.kind_parts.proofs.Framings.{memory_some, empty_frame, no_state}
use Rattle.kind_parts.proofs.framing.FramedFilter.start.Goals as goal

pub returns : goal.returns
returns g c m granted size =
    let F = g.K.Framing in
    let p = c.args.p.now in
    let new = c.overwrite.new.words in
    let asked = memory_some F.STATE_WORDS F.taken p m granted in
    let cleared : length c.clear.new.words ≡ length p + (COUNT + F.STATE_WORDS) = c.clear.auto.words ∙ size ∙ ap (λ a. a.kept) asked.memory in
    let long : length new ≡ length p + (COUNT + F.STATE_WORDS) = c.overwrite.auto.words ∙ cleared in
    let left : length (drop (length p) new) ≡ COUNT + F.STATE_WORDS = simp length-drop (omega arith) in
    record {
      history = tt;
      parameters = record { takes = asked.takes; size = long; same = c.overwrite.ensures.first (omega arith) };
      state =
          empty_frame F.state_of F.STATE_WORDS g.met.K.Framing.begins p (drop (length p) new) left
          (λ k. get_or-drop (length p) new k (pos 0) ∙ c.overwrite.ensures.rest (length p + k) (omega arith) ∙ c.clear.ensures (length p + k))
          ∙ no_state F.state_of p;
    }
