pub mod FairBuild
