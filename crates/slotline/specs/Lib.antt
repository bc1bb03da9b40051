pub mod Input
pub mod Sound
