pub mod OperatorSearch
pub mod PostfixNodes
pub mod OptionalParts
pub mod LevelChains
pub mod HolesLoop
