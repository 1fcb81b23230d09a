pub mod LevelTurns
pub mod Elements
