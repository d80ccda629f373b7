-- what is promised
pub mod Reading
pub mod Endings
pub mod ReadingAt
pub mod Report
pub mod ValueReading
pub mod Running
-- what private functions say
pub mod Variable
