use Rattle.gateway_kinds.specs.Kinds.{kind_meaning}
use Rattle.test_runs.proofs.Led.{led}
use Rattle.test_runs.proofs.served.served_calls_go_by_histories.Goals as goal

pub returns : goal.returns
returns c = λ calls old new before served keeps.
    let went = led calls old new before served keeps in
    let hosted = c.calls_run_on_the_host.ensures.run kind_meaning before went.0 calls went.1 in
    record {
      after = went.0;
      refines = went.2;
      asked = hosted.0;
      runs = hosted.1;
      each = λ i g kind p later born.
          c.births_go_by_their_histories.ensures.born kind_meaning before.host went.0.host hosted.0 i g kind p later hosted.2 (c.gateway_kinds_are_lawful.ensures kind p before.host.poison) born;
    }
