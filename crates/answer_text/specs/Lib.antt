pub mod AnswerFault
pub mod Answer
pub mod AnswerReader
