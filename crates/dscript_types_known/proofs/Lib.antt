pub mod Counted
pub mod Filled
pub mod Branches
pub mod Opened
pub mod Opening
pub mod Recently
