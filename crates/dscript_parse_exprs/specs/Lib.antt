pub mod Levels
pub mod TemplateView
pub mod HolesInvariant
pub mod Endings
pub mod Spelled
