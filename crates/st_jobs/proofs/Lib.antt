pub mod FormLemmas
pub mod ValueLemmas
pub mod FoundValues
pub mod ClapRules
pub mod ClapSteps
pub mod ClapWalk
pub mod JobLemmas
