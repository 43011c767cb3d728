mod Texts
mod Frames
mod Answers
mod Following
mod Hearing
mod Worlds
mod Parts
mod Steps
