pub mod Walks  -- the walk over single predecessors
pub mod Copies  -- the value recorded in the blocks passed
pub mod Begins  -- the predecessors scheduled
pub mod Finds  -- what find_var finds or makes
pub mod Visits  -- the visit of a block
