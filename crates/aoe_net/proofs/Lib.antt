-- Kept (`IsStore` of specs/Store): the count of bytes is that of the frames, and both counts are
-- within the limits. Read `StoreLemmas`. Another limit: `IsFullBy`, `IsStore`, `full_by`.
pub mod StoreLemmas
