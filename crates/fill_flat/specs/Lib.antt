-- What the walk that fills a flat table promises: what it asks and what it leaves.
pub mod Walked
