-- What a certificate promises: what it is, that no run that it covers ever sets spaceerror, which one is the least,
-- and how it is found.
pub mod Covers
pub mod Never
pub mod Larger
pub mod CoveredStates
pub mod Reaches
pub mod Least
pub mod Bounded
pub mod CertText
pub mod Certified
pub mod CertAgain
pub mod Order
pub mod Accepting
-- In folders: what is internal.
pub mod Internal
