-- What leaves records and blocks where they are.
use Rattle.host_spaces.specs.declared.spaces.Spaces.{Spaces}
use Rattle.host_table.specs.View.{View}
use Rattle.host_table.specs.Frames.{SameTables}
use Rattle.host_moves.specs.Standing.{MapAgrees}
use Rattle.host_moves.proofs.Owners.{members_of_same, standing_stays}

-- the memory map agrees with the tables as long as only states and words change
pub places_stay : {M : Type 0} (old new : View M) (spaces : Spaces)
    → SameTables old.instances old.sharing old.groups new.instances new.sharing new.groups → MapAgrees old spaces → MapAgrees new spaces
places_stay old new spaces same agrees =
    standing_stays (members_of_same same) agrees
