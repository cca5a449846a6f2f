mod FirstLines
mod FirstValues
