pub mod ClassArrays
