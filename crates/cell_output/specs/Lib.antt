pub mod CellOutput
