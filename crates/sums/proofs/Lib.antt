pub mod SearchLaws
pub mod TableLaws
pub mod LargestLaws
pub mod SumLaws
pub mod CountLaws
pub mod MoreSumLaws
pub mod MembersLaws
