pub mod StandingLemmas
pub mod CountLemmas
pub mod WalkLemmas
pub mod TurnLemmas
pub mod PlannedLemmas
pub mod HaltLemmas
pub mod LawLemmas
