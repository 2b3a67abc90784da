pub mod QuotasOnLiterals
pub mod LinesOnLiterals
pub mod BodiesOnLiterals
pub mod Ascii
pub mod StoresOnLiterals
pub mod ZnodesOnLiterals
pub mod FilesOnLiterals
