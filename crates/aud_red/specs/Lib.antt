pub mod Trail
pub mod Select
pub mod Json
pub mod JsonValue
pub mod Objects
pub mod Lineage
