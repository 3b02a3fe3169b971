-- `StreamLemmas`: what a writer took over several calls, for the loop that makes an interrupted
-- call again. `NameLemmas`: the parts of a name, one after the other. `HoleLemmas`: sectors of zeros, too.
mod StreamLemmas
mod NameLemmas
mod HoleLemmas
