mod Decided
mod Usable
mod Kept
mod Put
