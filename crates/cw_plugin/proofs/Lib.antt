pub mod ShareLemmas
pub mod GroupLemmas
pub mod FaultlessLemmas
pub mod TaskLemmas
pub mod LawLemmas
