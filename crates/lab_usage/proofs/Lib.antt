pub mod ParseLemmas
