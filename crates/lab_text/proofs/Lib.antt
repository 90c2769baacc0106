pub mod PartLemmas
pub mod ScanLemmas
pub mod PolicyLemmas
pub mod NameLemmas
pub mod LabelLemmas
pub mod PolicyFacts
pub mod Parsed
pub mod BareLemmas
