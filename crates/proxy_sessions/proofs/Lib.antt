mod Callers
mod Clients
