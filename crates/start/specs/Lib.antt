pub mod StartArrays
