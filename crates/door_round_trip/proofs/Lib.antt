pub mod ContentsNumbers
pub mod GivenBack
pub mod GivenBackExample
