mod Examples
mod Needles
