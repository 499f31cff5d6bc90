pub mod WordLemmas
pub mod NumberLemmas
pub mod ListLemmas
pub mod BytesLemmas
