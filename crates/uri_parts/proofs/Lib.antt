mod Cuts
mod Addresses
