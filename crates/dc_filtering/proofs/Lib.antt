mod Complete
mod RunLemmas
