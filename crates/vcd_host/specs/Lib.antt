pub mod Buffer
pub mod Buffered
pub mod Fills
pub mod LentOutput
pub mod Asked
pub mod Opens
pub mod Prefetched
pub mod Names
