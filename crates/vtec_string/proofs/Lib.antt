pub mod Numbers
pub mod Laying
