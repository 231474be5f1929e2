pub mod BaseInputs
