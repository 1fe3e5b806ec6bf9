pub mod FairStores
