-- The loop of read_peers keeps that each piece so far spells an address, and that there is one
-- address for each as long as there is room. Read AddressLemmas.
-- VxlanLemmas has the law: a change of specs/Vxlan touches it first.
mod AddressLemmas
mod VxlanLemmas
