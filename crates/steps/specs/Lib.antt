pub mod Sets
pub mod Named
