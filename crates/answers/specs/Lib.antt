pub mod Answers
pub mod BestAnswers
pub mod CheckAnswers
