pub mod MachineOnLiterals
pub mod RunsOnLiterals
pub mod DumpsOnLiterals
pub mod CommandsOnLiterals
