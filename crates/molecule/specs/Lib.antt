pub mod Items
pub mod Layout
pub mod Molecule
pub mod Partial
pub mod Write
