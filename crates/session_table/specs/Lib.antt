pub mod Mail
pub mod Sessions
pub mod Fans
pub mod FanLaws
pub mod Subscribed
pub mod SubscribeLaws
pub mod Sendings
pub mod Marks
