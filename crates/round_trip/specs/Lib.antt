pub mod RoundTrip
pub mod Copy
