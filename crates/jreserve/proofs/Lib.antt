pub mod NoteLemmas
