pub mod RoundTrip
pub mod Accepted
pub mod FirstLine
pub mod Determined
