pub mod Results
pub mod Contents
pub mod Plain
pub mod Views
