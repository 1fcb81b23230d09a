-- The demands of the program, proved of calls.
pub mod Program
