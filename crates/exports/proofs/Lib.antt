-- Theorems of the exports for readers.
pub mod ExportTheorems
