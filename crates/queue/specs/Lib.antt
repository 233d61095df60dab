pub mod Heap
pub mod Order
pub mod Sorted
pub mod Vacancy
pub mod Orders
