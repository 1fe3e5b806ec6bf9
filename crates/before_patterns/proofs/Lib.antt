pub mod SameTools
pub mod SameAsks
pub mod SameTexts
pub mod SameRuns
pub mod OldKinds
pub mod SameStores
