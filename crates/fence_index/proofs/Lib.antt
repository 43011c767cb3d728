pub mod Silent
pub mod Sums
pub mod OnePair
pub mod KeyWeights
pub mod Found
pub mod Prepared
