pub mod Within
pub mod Free
pub mod OneTree
pub mod Held
pub mod Ends
pub mod Rising
pub mod Entries
pub mod RoundTrip
