pub mod PlaceLemmas
pub mod GroupLemmas
pub mod RowLemmas
pub mod CountLemmas
pub mod CircleLemmas
