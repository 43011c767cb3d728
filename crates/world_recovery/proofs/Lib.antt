mod Reading
mod Steps
mod Feeding
mod Recorded
mod Opens
