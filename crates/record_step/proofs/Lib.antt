pub mod StartLaws
pub mod IdentificationLaws
pub mod SetupLaws
pub mod PacketLaws
pub mod AudioLaws
