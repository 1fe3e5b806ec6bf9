pub mod NodeViews
pub mod AllCalls
