pub mod TreeLists
pub mod NodeViews
