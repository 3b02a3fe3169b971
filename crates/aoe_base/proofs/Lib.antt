-- Read in this order: Digits, MacLemmas, DeviceLemmas; beside them CommonLemmas, AddressLemmas,
-- CountLemmas, EachLemmas and JoinLemmas have facts that the crates above use too.
-- Only loops keep something: so many bytes were read or given, they are the text so far, and the
-- rest is the rest.
-- A change of a text touches both definitions, reading and printing, and one-spelling of MacLemmas
-- or its like; then RequestLemmas and ReplyLemmas of aoe_history.
pub mod AddressLemmas
mod DeviceLemmas
pub mod CommonLemmas
mod Digits
pub mod CountLemmas
pub mod EachLemmas
pub mod JoinLemmas
pub mod MacLemmas
