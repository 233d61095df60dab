pub mod Kinds
pub mod Model
pub mod Spoilt
pub mod Totals
