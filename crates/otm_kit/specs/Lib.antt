-- What a command line asks for, and what a script says.
pub mod Asked
pub mod FleetTexts
pub mod FleetSetups
pub mod Declarations
pub mod Begin
pub mod Events
pub mod Answers
pub mod Texts
pub mod Effects
pub mod Says
pub mod Places
pub mod Standing
pub mod Ends
