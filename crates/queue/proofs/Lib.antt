pub mod Fronts
pub mod Moves
pub mod Outcomes
pub mod Queues
pub mod Rising
pub mod Sorting
pub mod Vacancies
