use Rattle.host_spec.proofs.OutcomeLemmas.{create_granted, create_params, create_range, create_room, create_taken}
use Rattle.host_spec.proofs.outcomes.creations_answer_in_order.Goals as goal

pub returns-clause-range : goal.returns-clause-range
returns-clause-range g c = λ kinds before i g kind p table out. create_range before kinds i g kind p table out

pub returns-clause-taken : goal.returns-clause-taken
returns-clause-taken g c = λ kinds before i g kind p table x lt small there. create_taken before kinds i g kind p table x lt small there

pub returns-clause-params : goal.returns-clause-params
returns-clause-params g c = λ kinds before i g kind p lt small none. create_params before kinds i g kind p lt small none

pub returns-clause-room : goal.returns-clause-room
returns-clause-room g c = λ kinds before i g kind p table space lt small none e. create_room before kinds i g kind p table space lt small none e

pub returns-clause-granted : goal.returns-clause-granted
returns-clause-granted g c = λ kinds before i g kind p table map lt small none e. create_granted before kinds i g kind p table map lt small none e
