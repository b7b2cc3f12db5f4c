pub mod KeyOrder
pub mod KeyLaws
pub mod Picking
pub mod SlotBytes
pub mod Counting
pub mod FileSearch
