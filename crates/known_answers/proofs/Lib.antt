pub mod FormerTableLaws
