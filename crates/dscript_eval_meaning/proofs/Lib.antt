pub mod Samples
mod StepsOfLiterals
mod StepsOfOperators
mod StepsOfCalls
mod StepsOfCallbacks
mod StepsOfStatements
mod OrderOfFaults
mod Captures
pub mod Counted
pub mod CountedForms
pub mod CountedPrograms
pub mod Alike
pub mod AlikeForms
pub mod AlikePrograms
mod FilesOfFaults
mod OpenCalls
mod OverSources
