pub mod Signed
pub mod Laying
pub mod Fitting
