pub mod ConflictArrays
