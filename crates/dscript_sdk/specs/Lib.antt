pub mod Calls
pub mod SealMembers
pub mod ProcessMembers
pub mod StaticMembers
pub mod Members
