-- Invariant of Switch: each VLAN of a port has a table, which has what is learnt from the inputs of
-- that VLAN (HasLearnt).
-- Read PortLemmas, TableLemmas, LearningLemmas, TakeLemmas; of the stream PieceLemmas, RunLemmas;
-- LawLemmas last.
mod LawLemmas
mod LearningLemmas
mod PieceLemmas
mod PortLemmas
mod RunLemmas
mod TableLemmas
mod TakeLemmas
