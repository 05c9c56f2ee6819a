pub mod Words
pub mod Description
pub mod FileReplies
pub mod Replies
pub mod CommandTexts
