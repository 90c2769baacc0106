mod CallLemmas
mod CapsLemmas
mod ChangeLemmas
mod KeepLemmas
mod ThereLemmas
