pub mod BytesLemmas
pub mod ChunkLemmas
pub mod CrcLemmas
pub mod DeviceLemmas
pub mod EightLemmas
pub mod ListLemmas
pub mod MemberLemmas
pub mod TableLemmas
