pub mod WordLemmas
pub mod PairLemmas
pub mod TableLemmas
pub mod WordsAgain
pub mod Again
pub mod Sayable
pub mod LinesAgain
pub mod Only
