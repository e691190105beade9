mod Counting
mod Diagnosed
pub mod RowLaws
