mod Parts
mod Storing
