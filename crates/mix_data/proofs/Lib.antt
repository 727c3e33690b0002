pub mod Heads
pub mod HexNames
pub mod NumbersRise
pub mod OnCalls
pub mod ScanLaws
pub mod ScanSteps
