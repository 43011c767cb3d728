mod Packing
mod Marks
