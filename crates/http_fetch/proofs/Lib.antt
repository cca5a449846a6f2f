mod Few
mod Places
mod Params
mod Joins
mod Lasts
mod Starts
mod FieldSamples
