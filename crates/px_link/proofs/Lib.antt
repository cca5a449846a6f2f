mod Among
mod Refusals
