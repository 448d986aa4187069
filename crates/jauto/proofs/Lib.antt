pub mod AutoLemmas
