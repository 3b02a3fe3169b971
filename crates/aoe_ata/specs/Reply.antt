-- The registers of a reply (ATA/ATAPI Command Set, "Status field" and "Error field").
use Rattle.std.specs.Prelude.{ℕ, ◌⊎◌}
use Rattle.std.specs.Int.{IsBitSet}
use Rattle.aoe_ata.specs.declared.args.AtaArgs.{AtaArgs}
use Rattle.aoe_ata.specs.declared.reply.AtaOutcome.{AtaOutcome}
use Rattle.aoe_ata.specs.declared.reply.AtaOutcome.TheVariants.{Done, Active, Aborted, NotFound, Uncorrectable}

-- DRDY, and ERR with an error
abbrev pub status_of : AtaOutcome → ℕ
status_of Done = 0x40
status_of Active = 0x40
status_of Aborted = 0x41
status_of NotFound = 0x41
status_of Uncorrectable = 0x41

-- ABRT, IDNF, UNC
abbrev pub error_of : AtaOutcome → ℕ
error_of Done = 0
error_of Active = 0
error_of Aborted = 0x04
error_of NotFound = 0x10
error_of Uncorrectable = 0x40

abbrev pub count_of : AtaOutcome → ℕ
count_of Done = 0
count_of Active = 0xff
count_of Aborted = 0
count_of NotFound = 0
count_of Uncorrectable = 0

-- the reply repeats AFlags and address
abbrev pub reply_of : AtaArgs → AtaOutcome → AtaArgs
reply_of request outcome = record {
  aflags = request.aflags;
  feature = error_of outcome;
  count = count_of outcome;
  code = status_of outcome;
  lba = request.lba;
}

-- a status with ERR (bit 0) or DF (bit 5)
abbrev pub IsFailed : AtaArgs → Type 0
IsFailed reply = IsBitSet reply.code 0 ⊎ IsBitSet reply.code 5
