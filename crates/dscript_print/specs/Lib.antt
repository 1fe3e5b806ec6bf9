pub mod Runs
pub mod TypeKinds
pub mod ExprKinds
pub mod FileKinds
pub mod Written
pub mod Printing
