mod ChildLemmas
mod EndLemmas
mod IdLemmas
mod LentLemmas
mod OwnLemmas
mod ReceiverLemmas
mod StandLemmas
mod StepLemmas
