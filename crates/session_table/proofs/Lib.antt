mod Ends
mod Heard
mod Mails
mod Marked
mod Placings
