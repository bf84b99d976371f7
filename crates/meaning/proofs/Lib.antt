-- the index
pub mod Theorems
-- tests, maps, lists, sums
pub mod Maps
pub mod Emit
pub mod Lists
pub mod Sums
-- demand 3: the invariant of reading, what each call does to it, what it means on a path
pub mod Alias
pub mod Facts
pub mod Lacking
pub mod Inv
pub mod Growing
pub mod Keeping
pub mod Settle
pub mod Reading
pub mod Sealing
pub mod Story
pub mod Graphs
pub mod Giving
pub mod Whole
pub mod Along
pub mod Demand
pub mod Bits
-- its suppositions: decided, met, needed
pub mod Agree
pub mod Against
pub mod Decide
pub mod Suppositions
pub mod Trace
pub mod Needed
-- what need not be supposed: no definition comes late
pub mod Timely
-- the machine, and what holds at its every moment and after every list of calls
pub mod Machine
pub mod Heights
pub mod Causing
pub mod Ranges
pub mod Fall
pub mod Load
pub mod Mid
pub mod Rest
pub mod Sure
pub mod Rooms
pub mod Causes
pub mod Chains
pub mod Port
pub mod Enough
pub mod Stored
pub mod Steady
pub mod Holds
pub mod Brought
pub mod Turns
pub mod Answers
-- stack maps: which values are recorded, and that marks change nothing else
pub mod Binding
pub mod Unmarked
pub mod Marks
