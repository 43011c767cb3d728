mod Fronts
pub mod FenceForms
mod Words
mod Spellings
mod Replies
mod Messages
mod Asking
