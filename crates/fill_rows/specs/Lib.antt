-- What the walk over two tables promises: the rows that it makes, what it needs and what it leaves.
pub mod Walked
