pub mod Same
pub mod Totals
