pub mod Fronts
pub mod Boxes
pub mod Laying
