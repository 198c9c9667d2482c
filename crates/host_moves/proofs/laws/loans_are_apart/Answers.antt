use Rattle.host_moves.proofs.ApartLemmas.{records_apart, scratch_apart, groups_apart}
use Rattle.host_moves.proofs.laws.loans_are_apart.Goals as goal

pub returns-clause-records : goal.returns-clause-records
returns-clause-records g c instances sharing groups spaces ok standing ordered i j k l space p q =
    records_apart instances sharing groups spaces standing space ok.held (λ o r s t. c.blocks_are_apart.ensures _ _ o r s t (ordered space).apart) i j k l p q

pub returns-clause-scratch : goal.returns-clause-scratch
returns-clause-scratch g c instances sharing groups spaces standing ordered i k h space p q =
    scratch_apart instances sharing groups spaces standing space (λ o r s t. c.blocks_are_apart.ensures _ _ o r s t (ordered space).apart) i k h p q

pub returns-clause-groups : goal.returns-clause-groups
returns-clause-groups g c instances sharing groups spaces standing ordered h i space p q =
    groups_apart instances sharing groups spaces standing space (λ o r s t. c.blocks_are_apart.ensures _ _ o r s t (ordered space).apart) h i p q
