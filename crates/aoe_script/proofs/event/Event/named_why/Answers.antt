use Rattle.std.proofs.Common.{inl, inr}
use Rattle.aoe_script.proofs.event.Event.named_why.Goals as goal

pub returns-in-Crash : goal.returns-in-Crash
returns-in-Crash c = rw (c.in-Crash.is, ← c.any-in-Crash.ensures) c.because-in-Crash.ensures

pub returns-in-Inject : goal.returns-in-Inject
returns-in-Inject c = rw (c.in-Inject.is, ← c.bytes.ensures, ← c.source_of.ensures, ← c.any-in-Inject.ensures) c.because-in-Inject.ensures

pub returns-in-Fail : goal.returns-in-Fail
returns-in-Fail c = let why = rw c.is_known.ensures at c.because-in-Fail.ensures in elim c.in-Fail.is [ inl h ↦ rw h.2 why | inr h ↦ rw h.3 why ]

pub returns-in-Read : goal.returns-in-Read
returns-in-Read c =
    let why = rw c.is_attached.ensures at c.because-in-Read.ensures in
    elim c.in-Read.is [
      | inl h ↦ rw h.2 why
      | inr r ↦ elim r [
        | inl h ↦ rw h.3 why
        | inr r ↦ elim r [
          | inl h ↦ rw h why
          | inr r ↦ elim r [
            | inl h ↦ rw h why
            | inr r ↦ elim r [
              | inl h ↦ rw h.2 why
              | inr r ↦ elim r [ inl h ↦ rw h.2 why | inr h ↦ rw h.2 why ]
            ]
          ]
        ]
      ]
    ]
