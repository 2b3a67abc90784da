pub use Rattle.kz_stages.specs.Disks
pub use Rattle.kz_stages.specs.Drivers
pub mod Steps
