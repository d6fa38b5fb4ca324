pub mod KeptArrays
pub mod PushArrays
