pub mod EndLemmas
pub mod FillLemmas
pub mod FilledLemmas
pub mod HeldLaws
pub mod PackLaws
pub mod PackedLemmas
pub mod WrittenLemmas
