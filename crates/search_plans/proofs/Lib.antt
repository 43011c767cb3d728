mod Pages
mod Still
