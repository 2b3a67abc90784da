pub use Rattle.kz_world_parts.specs.Disks
pub use Rattle.kz_world_parts.specs.EventDisks
pub use Rattle.kz_world_parts.specs.TurnStops
pub use Rattle.kz_world_parts.specs.Worlds
pub mod Bounds
