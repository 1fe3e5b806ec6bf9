pub mod Operators
pub mod TypeTree
pub mod ExprTree
pub mod FileTree
pub mod Views
pub mod Literals
