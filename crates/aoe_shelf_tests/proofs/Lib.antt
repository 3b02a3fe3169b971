-- Disks in memory that are mounted as a mirror for the first time: their mark disk says nothing.
mod Marks
