pub mod OperandTurns
