-- The log of the rules' actions, what it decides, and the log theorem.
pub mod Log
pub mod LogTheorem
pub mod Counts
pub mod Program
pub mod Edges
pub mod WrongManagers
