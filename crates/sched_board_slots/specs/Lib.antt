pub mod Graphs
pub mod Slots
pub mod Closing
pub mod Finished
pub mod SameProcesses
