pub mod View
pub mod Automaton
