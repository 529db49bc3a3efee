mod Places
mod Turning
