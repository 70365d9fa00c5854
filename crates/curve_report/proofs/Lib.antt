mod Pictures
mod Stretches
