mod Cut
mod Places
mod Sent
