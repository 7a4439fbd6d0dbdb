mod BuildingForwarded
mod BuildingScion
pub mod Built
pub mod Building
