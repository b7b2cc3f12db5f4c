pub mod Quiet
pub mod Answering
pub mod Given
pub mod RequestWords
pub mod Mails
pub mod Trying
