pub mod Numbers
pub mod Results
pub mod Bytes
pub mod Answers
pub mod Forms
