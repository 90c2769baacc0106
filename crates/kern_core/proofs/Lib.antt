pub mod AuditLemmas
pub mod BootLemmas
pub mod KernelLemmas
pub mod StepLemmas
