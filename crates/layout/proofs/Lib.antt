pub mod Cells  -- tables in cells: read, store, change a part; the render
pub mod Rows  -- one row: read, push
pub mod Grids  -- tables of rows, and tables that are one row
pub mod Tables  -- marks, lists and rows of lists as tables
pub mod Loops  -- the loops over a row, a turn at a time
pub mod Searches  -- find in a row
pub mod Places  -- any entry of a list, found by place
pub mod Ends  -- the last entries of a row
pub mod Removals  -- remove from a row keeping order; clear a row
pub mod Swaps  -- remove from a row by moving the last entry
pub mod Values  -- columns with a cell for each value
pub mod Stacks  -- push, read and pop the work stacks
pub mod Same  -- the cells fix the tables
pub mod Outcome  -- what a session keeps
pub mod Zeros  -- zero cells show the empty state
pub mod Pushes  -- push on a row of a table
pub mod Columns  -- store in a column with a cell for each value
pub mod Lasts  -- the last results on their stack
