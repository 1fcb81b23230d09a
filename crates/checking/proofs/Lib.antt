-- `Machines`: what a check by one of the model's machines owes of a turn and of the end.
pub mod Machines
