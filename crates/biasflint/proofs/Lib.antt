-- The claims of the calls, one call on the flat record of a manager, and lists of cards.
pub mod CallLaws
pub mod OneCall
pub mod CardHistory
pub mod NumberLaws
