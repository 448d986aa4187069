pub mod ByteKinds
pub mod MapText
pub mod NodeTexts
pub mod Places
pub mod Picture
pub mod MapLaws
