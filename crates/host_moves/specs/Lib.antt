pub mod Waiting
pub mod Standing
pub mod Moves
pub mod Lent
pub mod Refinement
pub mod Hosts
pub mod LoanLaws
pub mod HeldLaws
