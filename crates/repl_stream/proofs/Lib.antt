mod Places
mod Apart
