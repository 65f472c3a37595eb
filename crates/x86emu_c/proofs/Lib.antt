mod HeldValues
mod LooseValues
mod Reset
mod Runs
mod Sizes
