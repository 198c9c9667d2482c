use Rattle.std.proofs.Common.{ap, sym, ◌∙◌}
use Rattle.ialg.specs.Meaning.{outputs_of}
use Rattle.host_spec.specs.Runs.{statuses_of}
use Rattle.console_spec.proofs.HeadlineLemmas as lemmas
use Rattle.console_spec.proofs.main_law.headline.Goals as goal

pub returns-clause-run : goal.returns-clause-run
returns-clause-run g c = λ kinds named widths sizes poison lines inputs honest answer served.
    lemmas.headline kinds named widths sizes poison inputs honest
    (record {
      only = c.creations_alone_lack_room.ensures.only kinds;
      exactly = c.creations_alone_lack_room.ensures.exactly kinds;
      nothing = c.refused_calls_change_nothing.ensures kinds;
      no_line = c.refused_lines_change_nothing.ensures kinds named widths;
    })
    (c.refused_calls_change_nothing.ensures kinds) lines answer served

pub returns-clause-first : goal.returns-clause-first
returns-clause-first g c = λ kinds named widths sizes poison first more inputs honest answer served.
    lemmas.goes_on kinds named widths sizes poison inputs honest
    (record {
      only = c.creations_alone_lack_room.ensures.only kinds;
      exactly = c.creations_alone_lack_room.ensures.exactly kinds;
      nothing = c.refused_calls_change_nothing.ensures kinds;
      no_line = c.refused_lines_change_nothing.ensures kinds named widths;
    })
    (c.refused_calls_change_nothing.ensures kinds) first more answer served

pub returns-clause-two : goal.returns-clause-two
returns-clause-two g c = λ kinds named widths other_widths sizes other_sizes poison other_poison lines inputs other_lines other_inputs honest other_honest answer other one two i j g' h kind p later since lawful born lawful' born' same.
    let first = one.each i kind g' p later lawful born in
    let second = two.each j kind h p since lawful' born' in
    (first.gives.outputs ∙ ap (outputs_of kinds kind p) same ∙ sym second.gives.outputs, first.gives.statuses ∙ ap (statuses_of kinds kind p) same ∙ sym second.gives.statuses)
