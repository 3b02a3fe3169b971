-- Read `OrderLemmas` and `ValueLemmas` (of a history: the order of commands, and what may be read), then `FinishLemmas`, `CallLemmas` and
-- `TraceLemmas` (of a desk: what became of a request), `SectorLemmas` over `PieceLemmas`, and last `StepLemmas` and `ClientLemmas`, which join both.
mod CallLemmas
mod ClientLemmas
mod FinishLemmas
mod OrderLemmas
mod PieceLemmas
mod SectorLemmas
mod StepLemmas
mod TraceLemmas
mod ValueLemmas
